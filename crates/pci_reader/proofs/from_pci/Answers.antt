use mathlib.Core.Path.{ap, sym, ◌∙◌}
use Rattle.std.proofs.Common.{rules, ◌≡◌}
use Rattle.std.specs.Prelude.{Err}
use Rattle.rules.specs.Verdict.{Refusal}
use Rattle.rules.specs.Answer.{refuse}
use Rattle.rules.specs.Returned.{numbered}
use Rattle.pairs.proofs.Pairs.{pair_count}
use Rattle.pci_reader.proofs.Answering.{from-refused, from-short, from-done}
use Rattle.pci_reader.proofs.from_pci.Goals as goal

pub returns-in_err-counts : goal.returns-in_err-counts
returns-in_err-counts c =
    let e : c.from_residual.result ≡ Err c.in_err-counts.field-0.0 = search rules in
    rw e (from-refused _ _ _ _ (sym c.check.ensures ∙ ap numbered c.in_err-counts.was))

pub returns-then-list-words : goal.returns-then-list-words
returns-then-list-words c =
    ap (λ (f : Refusal). refuse f c.args.image.now c.args.list.now) c.no_room.ensures
    ∙ from-short _ _ _ _ _ _ (sym c.check.ensures ∙ ap numbered c.in_ok-counts.was) (sym (pair_count c.args.pairs.now)) c.if-list-words.true

pub returns : goal.returns
returns c = rw (c.accepted.ensures, c.write_values.ensures) (from-done _ _ _ _ _ _ (sym c.check.ensures ∙ ap numbered c.in_ok-counts.was) (sym (pair_count c.args.pairs.now)) c.if-list-words.false)
