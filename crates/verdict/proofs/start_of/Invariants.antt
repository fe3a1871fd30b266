use Prim.Native.Nat.{◌-◌, ◌≤◌}
use mathlib.Core.Path.{◌≡◌}
use lib.ListN.{drop}
use Rattle.rules.specs.Place.{start_from, start_of}
use Rattle.verdict.proofs.start_of.Given as goal

abbrev pub invariant-loop-at : goal.invariant-loop-at
invariant-loop-at l = (l.at ≤ l.p) × (start_from l.p 0 0 l.at (drop l.at l.list) ≡ start_of l.list l.p)

abbrev pub decreases-loop-at : goal.decreases-loop-at
decreases-loop-at l = l.p - l.at
