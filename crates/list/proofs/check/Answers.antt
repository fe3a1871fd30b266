use native.Mathlib.Omega.{arith}
use mathlib.Core.Path.{ap, sym, ◌∙◌}
use mathlib.Core.Bool.{not}
use lib.Dec.{eqb, ltb}
use lib.ListN.{length, length-take}
use lib.Seq.{take-length}
use Rattle.std.proofs.Common.{rules, ◌≡◌}
use Rattle.std.specs.Prelude.{Err}
use Rattle.rules.specs.Returned.{numbered}
use Rattle.rules.specs.Walk.{start, parse}
use Rattle.list.proofs.Steps.{at_start}
use Rattle.list.proofs.Answers.{sized_refused, sized_passed}
use Rattle.list.proofs.check.Goals as goal

pub returns-in_err-sized : goal.returns-in_err-sized
unfolding parse
returns-in_err-sized c =
    let e : c.from_residual.result ≡ Err c.in_err-sized.field-0.0 = search rules in
    rw e (sym (sized_refused _ _ _ _ (sym c.sized.ensures ∙ ap numbered c.in_err-sized.was)))

pub slice_bounds-walk-end : goal.slice_bounds-walk-end
slice_bounds-walk-end c = simp length-take (omega arith)

pub returns : goal.returns
unfolding parse
returns c = let a = c.args in
    rw (sized_passed _ (ltb 4096 (length a.list.now)) (not (eqb (length a.image.now) 256)) (sym c.sized.ensures ∙ ap numbered c.in_ok-sized.was))
    (rw (take-length a.list.now) at (c.walk.ensures (start a.image.now) (at_start a.image.now)))
