use Prim.Native.Nat.{◌*◌}
use mathlib.Core.Path.{◌≡◌}
use lib.Seq.{sets}
use Rattle.rules.specs.Form.{read}
use Rattle.rules.specs.Pci.{pairs_from}
use Rattle.pci_writer.proofs.write_words.Given as goal

abbrev pub invariant-loop-i : goal.invariant-loop-i
invariant-loop-i l = l.pairs ≡ sets l.initial.pairs (2 * l.at) (pairs_from l.id 0 (read l.list l.at l.i))
