use native.Mathlib.Omega.{arith}
use mathlib.Core.Path.{sym, ◌∙◌}
use Rattle.command.proofs.Sizes.{size-pos}
use Rattle.verdict.proofs.Start.{start_here, start-inside, start_beyond}
use Rattle.verdict.proofs.start_of.Goals as goal

pub returns-then-p-at : goal.returns-then-p-at
returns-then-p-at c = (omega arith, sym (start-inside _ _ _ c.requires _ c.size_at-size.ensures c.loop-at-test.true c.if-p-at.true) ∙ c.loop-at.invariant.1)

pub loop-at-preserved : goal.loop-at-preserved
loop-at-preserved c = (omega arith, sym (start_beyond _ _ _ c.requires _ c.size_at-size.ensures c.loop-at-test.true c.if-p-at.false) ∙ c.loop-at.invariant.1)

pub returns : goal.returns
returns c = (omega arith, sym (start_here _ _ _ c.requires (omega arith)) ∙ c.loop-at.invariant.1)

pub loop-at-smaller : goal.loop-at-smaller
loop-at-smaller c = omega (arith, size-pos c.args.list.now c.loop-at.at _ c.size_at-size.ensures)
