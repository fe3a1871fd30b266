use mathlib.Core.Path.{◌≡◌}
use Prim.Native.Nat.{◌≤◌}
use lib.ListN.{length}
use lib.Seq.{sets}
use Rattle.rules.specs.Form.{read}
use Rattle.rules.specs.Pci.{values}
use Rattle.pci_reader.proofs.write_values.Given as goal

abbrev pub invariant-loop-i : goal.invariant-loop-i
invariant-loop-i l = (l.i ≤ length (values l.pairs)) × (l.list ≡ sets l.initial.list 0 (read (values l.pairs) 0 l.i)) × (length l.list ≡ length l.initial.list)
