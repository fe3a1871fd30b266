use Rattle.std.proofs.Common.{rules, ◌≡◌}
use mathlib.Core.Path.{ap, sym, ◌∙◌}
use Rattle.std.specs.Prelude.{Err}
use Rattle.rules.specs.Verdict.{Refusal}
use Rattle.rules.specs.Answer.{refuse}
use Rattle.rules.specs.Returned.{numbered}
use Rattle.pci_writer.proofs.Answering.{to_refused, to_short, to_done}
use Rattle.pci_writer.proofs.to_pci.Goals as goal

pub returns-in_err-counts : goal.returns-in_err-counts
returns-in_err-counts c =
    let e : c.from_residual.result ≡ Err c.in_err-counts.field-0.0 = search rules in
    rw e (to_refused _ _ _ _ (sym c.check.ensures ∙ ap numbered c.in_err-counts.was))

pub returns-then-pairs-list : goal.returns-then-pairs-list
returns-then-pairs-list c =
    ap (λ (f : Refusal). refuse f c.args.image.now c.args.pairs.now) c.no_room.ensures
    ∙ to_short _ _ _ _ _ (sym c.check.ensures ∙ ap numbered c.in_ok-counts.was) c.if-pairs-list.true

pub returns : goal.returns
returns c = rw (c.accepted.ensures, c.write_list.ensures) (to_done _ _ _ _ _ (sym c.check.ensures ∙ ap numbered c.in_ok-counts.was) c.if-pairs-list.false)
