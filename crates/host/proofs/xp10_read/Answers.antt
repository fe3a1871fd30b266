use Rattle.host.proofs.Call.{read_fits}
use Rattle.host.proofs.xp10_read.Goals as goal

pub write-requires : goal.write-requires
write-requires c = rw c.into.ensures (read_fits _ _ _ _ _ _ _ c.read.ensures)
