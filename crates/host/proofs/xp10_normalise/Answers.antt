use Rattle.host.proofs.Call.{normalise_fits}
use Rattle.host.proofs.xp10_normalise.Goals as goal

pub write-requires : goal.write-requires
write-requires c = rw c.into.ensures (normalise_fits _ _ _ _ _ _ _ c.normalise.ensures)
