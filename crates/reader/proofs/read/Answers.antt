use Rattle.std.proofs.Common.{rules, ◌≡◌}
use mathlib.Core.Path.{ap, sym, ◌∙◌}
use Rattle.std.specs.Prelude.{Err}
use Rattle.rules.specs.Verdict.{Refusal}
use Rattle.rules.specs.Answer.{refuse}
use Rattle.rules.specs.Returned.{numbered}
use Rattle.list.proofs.Answers.{counts}
use Rattle.reader.proofs.Reading.{read-refused, read_short, read_fits, read_done}
use Rattle.reader.proofs.read.Goals as goal

pub returns-in_err-counts : goal.returns-in_err-counts
returns-in_err-counts c =
    let e : c.from_residual.result ≡ Err c.in_err-counts.field-0.0 = search rules in
    rw e (read-refused _ _ _ _ (sym c.check.ensures ∙ ap numbered c.in_err-counts.was))

pub returns-then-records-counts : goal.returns-then-records-counts
returns-then-records-counts c =
    ap (λ (f : Refusal). refuse f c.args.image.now c.args.records.now) c.no_room.ensures
    ∙ read_short _ _ _ _ _ (sym c.check.ensures ∙ ap numbered c.in_ok-counts.was) c.if-records-counts.true

pub apply_list-requires : goal.apply_list-requires
apply_list-requires c =
    let e = sym c.check.ensures ∙ ap numbered c.in_ok-counts.was in
    ((counts _ _ _ e).is, read_fits _ _ c.args.records.now _ _ e c.if-records-counts.false)

pub returns : goal.returns
returns c = rw (c.accepted.ensures, c.apply_list.ensures.image_value, c.apply_list.ensures.buffer_value) (read_done _ _ _ _ _ (sym c.check.ensures ∙ ap numbered c.in_ok-counts.was) c.if-records-counts.false)
