use native.Mathlib.Omega.{arith}
use Rattle.session.proofs.Pairs.{not_refused}
use Rattle.session.proofs.Standing.{standing_start, standing_end, standing_stops, standing_on}
use Rattle.session.proofs.read_scenes.Goals as goal

pub loop-pair-init : goal.loop-pair-init
loop-pair-init c = standing_start _ _ _ _

pub returns-then-is_refused : goal.returns-then-is_refused
returns-then-is_refused c = standing_stops _ _ _ _ _ _ c.loop-pair.invariant (omega arith) _ c.as_chunks.ensures.front c.read_next-s.ensures
    (c.is_refused.ensures.0 c.if-is_refused.true)

pub loop-pair-preserved : goal.loop-pair-preserved
loop-pair-preserved c = standing_on _ _ _ _ _ _ c.loop-pair.invariant (omega arith) _ c.as_chunks.ensures.front c.read_next-s.ensures
    (not_refused _ c.is_refused.ensures c.if-is_refused.false)

pub returns : goal.returns
returns c = standing_end _ _ _ _ _ _ c.loop-pair.invariant (omega arith)
