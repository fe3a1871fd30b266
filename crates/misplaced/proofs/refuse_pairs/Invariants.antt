use mathlib.Core.Path.{◌≡◌}
use Prim.Native.Nat.{◌-◌, ◌≤◌}
use lib.ListN.{length}
use Rattle.rules.specs.Pci.{values}
use Rattle.misplaced.specs.View.{misplaced_from}
use Rattle.misplaced.proofs.refuse_pairs.Given as goal

abbrev pub invariant-loop-at : goal.invariant-loop-at
invariant-loop-at l = (l.at ≤ length (values l.pairs)) × (misplaced_from l.start l.pairs ≡ misplaced_from l.at l.pairs)

abbrev pub decreases-loop-at : goal.decreases-loop-at
decreases-loop-at l = length (values l.pairs) - l.at
