use Rattle.host.proofs.Call.{from_pci_fits}
use Rattle.host.proofs.xp10_from_pci.Goals as goal

pub write-requires : goal.write-requires
write-requires c = rw c.into.ensures (from_pci_fits _ _ _ _ _ _ c.from_pci.ensures)
