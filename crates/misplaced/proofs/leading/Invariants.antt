use mathlib.Core.Path.{◌≡◌}
use mathlib.Core.Bool.{true}
use Rattle.rules.specs.Form.{read}
use Rattle.pairs.specs.View.{addresses}
use Rattle.placed.specs.View.{placed}
use Rattle.misplaced.proofs.leading.Given as goal

abbrev pub invariant-loop-i : goal.invariant-loop-i
invariant-loop-i l = placed l.id 0 (read (addresses l.pairs) l.at l.i) ≡ true
