use Rattle.std.proofs.Common.{rules, ◌≡◌}
use native.Mathlib.Omega.{arith}
use mathlib.Core.Path.{ap, sym, ◌∙◌}
use borrow.Author.Tests.{lt-ltb}
use Rattle.std.specs.Prelude.{Err}
use Rattle.rules.specs.Verdict.{Refusal}
use Rattle.rules.specs.Answer.{refuse, reading}
use Rattle.theory.proofs.Modes.{over_three}
use Rattle.swap.proofs.Calls.{in_numbered, in_unchanged, read-long}
use Rattle.swap.proofs.read.Goals as goal

pub returns-in_err-mode : goal.returns-in_err-mode
returns-in_err-mode c =
    let e : c.from_residual.result ≡ Err c.in_err-mode.field-0.0 = search rules in
    rw e (ap (λ (f : Refusal). refuse f c.args.image.now c.args.records.now) c.in_err-mode.ensures.0 ∙ sym (over_three _ _ _ _ _ c.in_err-mode.ensures.1))

pub returns-in-Unchanged : goal.returns-in-Unchanged
returns-in-Unchanged c = c.read.ensures ∙ in_unchanged reading _ _ _ (rw c.in-Unchanged.is at c.in_ok-mode.ensures)

pub returns-in_default-len : goal.returns-in_default-len
returns-in_default-len c = c.read-in_default-len.ensures ∙ read-long _ _ _ _ (lt-ltb 4096 _ (omega arith)) ∙ in_numbered reading _ _ _ _ c.in_ok-mode.ensures
