use Rattle.host.proofs.Call.{measure_fits}
use Rattle.host.proofs.xp10_measure.Goals as goal

pub write-requires : goal.write-requires
write-requires c = rw c.into.ensures (measure_fits _ _ _ c.measure.ensures)
