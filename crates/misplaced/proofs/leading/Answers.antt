use mathlib.Core.Path.{sym, ◌∙◌}
use borrow.Author.Tests.{eq-eqb}
use Rattle.pairs.specs.View.{addresses}
use Rattle.placed.proofs.Placed.{placed_one}
use Rattle.misplaced.proofs.leading.Goals as goal

pub loop-i-preserved : goal.loop-i-preserved
loop-i-preserved c = let a = c.args in
    placed_one a.id (addresses a.pairs.now) a.at c.loop-i.i ∙ rw (c.loop-i.invariant, eq-eqb _ _ (sym c.address_at.ensures ∙ c.if-address_at-address.false ∙ c.address.ensures))
