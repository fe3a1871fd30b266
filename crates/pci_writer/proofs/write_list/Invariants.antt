use Prim.Native.Nat.{◌-◌}
use lib.ListN.{length}
use Rattle.rules.specs.Walk.{parse}
use Rattle.rules.specs.Answer.{commands_of}
use Rattle.pci_writer.proofs.Writing.{Put}
use Rattle.pci_writer.proofs.write_list.Given as goal

abbrev pub invariant-loop-at : goal.invariant-loop-at
invariant-loop-at l = Put (commands_of (parse l.image l.list)) l.list l.initial.pairs l.at l.pairs

abbrev pub decreases-loop-at : goal.decreases-loop-at
decreases-loop-at l = length l.list - l.at
