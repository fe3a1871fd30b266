use Rattle.std.proofs.Common.{rules, ◌≡◌}
use mathlib.Core.Path.{ap, sym, ◌∙◌}
use mathlib.Core.List.{[]}
use Rattle.std.specs.Prelude.{Err}
use Rattle.rules.specs.Returned.{numbered}
use Rattle.form.proofs.Normalising.{measure-refused, measure-done}
use Rattle.form.proofs.measure.Goals as goal

pub returns-in_err-counts : goal.returns-in_err-counts
returns-in_err-counts c =
    let e : c.from_residual.result ≡ Err c.in_err-counts.field-0.0 = search rules in
    rw e (measure-refused _ _ [] _ (sym c.check.ensures ∙ ap numbered c.in_err-counts.was))

pub returns : goal.returns
returns c =
    let told = measure-done _ _ [] _ _ (sym c.check.ensures ∙ ap numbered c.in_ok-counts.was) in
    c.accepted.ensures ∙ (rw (← c.form-length.ensures.value) at told)
