use mathlib.Core.Path.{ap, sym, ◌∙◌}
use mathlib.Core.Bool.{not}
use lib.Dec.{eqb, ltb}
use lib.ListN.{length}
use Rattle.std.proofs.Common.{rules, ◌≡◌}
use Rattle.std.specs.Prelude.{Err}
use Rattle.rules.specs.Returned.{numbered}
use Rattle.rules.specs.Walk.{start}
use Rattle.rules.specs.Pci.{values, parse_pairs}
use Rattle.list.specs.View.{sized_of}
use Rattle.list.proofs.Steps.{at_start}
use Rattle.list.proofs.Answers.{sized_refused, sized_passed}
use Rattle.pairs.proofs.Pairs.{pair_count}
use Rattle.pci_reader.proofs.check.Goals as goal

pub returns-in_err-sized : goal.returns-in_err-sized
unfolding parse_pairs
returns-in_err-sized c =
    let e : c.from_residual.result ≡ Err c.in_err-sized.field-0.0 = search rules in
    rw e (sym (sized_refused _ _ _ _ (ap (λ n. sized_of n (length c.args.image.now)) (pair_count c.args.pairs.now) ∙ sym c.sized.ensures ∙ ap numbered c.in_err-sized.was)))

pub returns : goal.returns
unfolding parse_pairs
returns c =
    rw (sized_passed _ (ltb 4096 (length (values c.args.pairs.now))) (not (eqb (length c.args.image.now) 256)) (ap (λ n. sized_of n (length c.args.image.now)) (pair_count c.args.pairs.now) ∙ sym c.sized.ensures ∙ ap numbered c.in_ok-sized.was))
    (c.walk.ensures (start c.args.image.now) (at_start c.args.image.now))
