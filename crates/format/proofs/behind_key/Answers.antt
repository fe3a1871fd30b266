use mathlib.Core.Path.{sym, ◌∙◌}
use Rattle.format.proofs.Tables.{part-is, row_none, row-found, row-further}
use Rattle.format.specs.Format.{line_of}
use Rattle.format.proofs.behind_key.Goals as goal

pub returns-then-fresh-first : goal.returns-then-fresh-first
returns-then-fresh-first c = let l = c.loop-rest.rest.now in
    rw (part-is 2 l) (sym (row-found _ _ _ l c.in-len2-up.len_at_least c.if-fresh-first.true) ∙ c.loop-rest.invariant)

pub loop-rest-preserved : goal.loop-rest-preserved
loop-rest-preserved c = let l = c.loop-rest.rest.now in
    rw (part-is 1 l) (sym (row-further _ _ _ l c.in-len2-up.len_at_least c.if-fresh-first.false) ∙ c.loop-rest.invariant)

pub returns : goal.returns
unfolding line_of
returns c = sym (row_none _ _ _ c.loop-rest.rest.now c.in_default.len_below) ∙ c.loop-rest.invariant
