use Rattle.std.proofs.Common.{rules, ◌≡◌}
use mathlib.Core.Path.{ap, sym, ◌∙◌}
use Rattle.std.specs.Prelude.{Err}
use Rattle.rules.specs.Verdict.{Refusal}
use Rattle.rules.specs.Answer.{refuse}
use Rattle.rules.specs.Returned.{numbered}
use Rattle.form.proofs.Normalising.{normalise-refused, normalise-short, normalise-done, list-fits}
use Rattle.form.proofs.normalise.Goals as goal
use Rattle.form.proofs.normalise.Goals.{then-out-list+else-out-form, else-out-list}

pub returns-in_err-counts : goal.returns-in_err-counts
returns-in_err-counts c =
    let e : c.from_residual.result ≡ Err c.in_err-counts.field-0.0 = search rules in
    rw e (normalise-refused _ _ _ _ (sym c.check.ensures ∙ ap numbered c.in_err-counts.was))

pub returns-then-out-form : goal.returns-then-out-form
returns-then-out-form c =
    ap (λ (f : Refusal). refuse f c.args.image.now c.args.out.now) c.no_room.ensures
    ∙ normalise-short _ _ _ _ _ (sym c.check.ensures ∙ ap numbered c.in_ok-counts.was) (rw c.form.ensures.value at c.if-out-form.true)

pub returns : goal.returns
returns c = let a = c.args in
    let e = sym c.check.ensures ∙ ap numbered c.in_ok-counts.was in
    rw (c.accepted.ensures, c.form-words.ensures.value, c.form-words.ensures.out_value)
    (normalise-done _ _ _ _ _ e
    (elim c.if-out-list.branch [
      | then-out-list+else-out-form w ↦ rw w.form.ensures.value at w.if-out-form.false
      | else-out-list w ↦ list-fits a.list.now a.image.now a.out.now _ _ e w.if-out-list.false
    ]))
