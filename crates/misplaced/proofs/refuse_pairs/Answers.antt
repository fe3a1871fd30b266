use native.Mathlib.Omega.{arith}
use mathlib.Core.Path.{ap, sym, ◌∙◌}
use mathlib.Core.Option.{Option}
use Prim.Native.Nat.{◌<◌}
use lib.ListN.{length}
use Rattle.rules.specs.Verdict.{Refusal}
use Rattle.rules.specs.Returned.{numbered_refusal}
use Rattle.rules.specs.Pci.{values}
use Rattle.list.specs.View.{or_else}
use Rattle.pairs.proofs.Pairs.{pair_count}
use Rattle.command.proofs.Sizes.{size-pos}
use Rattle.misplaced.specs.Laws.{none_behind}
use Rattle.misplaced.proofs.Misplaced.{leading-wrong, leading_cut, leading-all}
use Rattle.misplaced.proofs.refuse_pairs.Goals as goal

pub returns-then-right-n : goal.returns-then-right-n
returns-then-right-n c = let ps = c.args.pairs.now in
    let at = c.loop-at.at in
    let h : at < length (values ps) = omega (arith, c.loop-at-test.true, pair_count ps) in
    let k = rw (c.id_of.ensures, c.value_at.ensures) at c.leading-right.ensures in
    let e = leading-wrong ps at h _ _ c.size_at-words.ensures k c.if-right-words.true (omega (arith, c.if-right-n.true, pair_count ps)) in
    sym (ap (λ (x : Option Refusal). or_else x (numbered_refusal c.args.f)) (c.loop-at.invariant.1 ∙ e))

pub returns-then-right-words : goal.returns-then-right-words
returns-then-right-words c = let ps = c.args.pairs.now in
    let at = c.loop-at.at in
    let h : at < length (values ps) = omega (arith, c.loop-at-test.true, pair_count ps) in
    let k = rw (c.id_of.ensures, c.value_at.ensures) at c.leading-right.ensures in
    let e = leading_cut ps at h _ _ c.size_at-words.ensures k c.if-right-words.true (omega (arith, c.if-right-n.false, pair_count ps)) in
    sym (ap (λ (x : Option Refusal). or_else x (numbered_refusal c.args.f)) (c.loop-at.invariant.1 ∙ e))

pub loop-at-smaller : goal.loop-at-smaller
loop-at-smaller c = omega (arith, c.loop-at-test.true, size-pos (values c.args.pairs.now) c.loop-at.at _ c.size_at-words.ensures)

pub loop-at-preserved : goal.loop-at-preserved
loop-at-preserved c = let ps = c.args.pairs.now in
    let at = c.loop-at.at in
    let h : at < length (values ps) = omega (arith, c.loop-at-test.true, pair_count ps) in
    let k = rw (c.id_of.ensures, c.value_at.ensures) at c.leading-right.ensures in
    let e = leading-all ps at h _ _ c.size_at-words.ensures k c.if-right-words.false in
    (e.0, c.loop-at.invariant.1 ∙ e.1)

pub returns : goal.returns
returns c = let ps = c.args.pairs.now in
    sym (ap (λ (x : Option Refusal). or_else x (numbered_refusal c.args.f)) (c.loop-at.invariant.1 ∙ none_behind ps c.loop-at.at (omega (arith, c.loop-at-test.false, pair_count ps))))
