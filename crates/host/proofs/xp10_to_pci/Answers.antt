use Rattle.host.proofs.Call.{to_pci_fits}
use Rattle.host.proofs.xp10_to_pci.Goals as goal

pub write-requires : goal.write-requires
write-requires c = rw c.into.ensures (to_pci_fits _ _ _ _ _ _ c.to_pci.ensures)
