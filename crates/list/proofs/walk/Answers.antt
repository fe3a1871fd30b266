use native.Mathlib.Omega.{arith}
use Rattle.list.proofs.Steps.{walking_counted}
use Rattle.list.proofs.Stepping.{passing_start, passing_stop, passing_on, passing_end}
use Rattle.list.proofs.walk.Goals as goal

pub loop-c-init : goal.loop-c-init
loop-c-init g c = rw c.start-c.ensures (passing_start g.S.Source.words g.S.Source.placed g.S.Walked.amiss c.args.buffer.now)

pub step-requires : goal.step-requires
step-requires g c = (walking_counted _ _ c.loop-c.invariant.walking, omega (arith, c.loop-c-test.true, c.len.ensures))

pub returns-in-Err : goal.returns-in-Err
returns-in-Err g c = passing_stop g.S.Source.words g.S.Source.placed g.S.Walked.amiss c.args.buffer.now _ c.loop-c.invariant (g.met.S.Walked.in_place c.args.buffer.now c.loop-c.c.at (omega (arith, c.loop-c-test.true, c.len.ensures))) _ _ (omega (arith, c.loop-c-test.true, c.len.ensures)) c.in-Err.ensures c.refuse.ensures

pub loop-c-smaller : goal.loop-c-smaller
loop-c-smaller g c = let h = passing_on g.S.Source.words g.S.Source.placed g.S.Walked.amiss c.args.buffer.now _ c.loop-c.invariant (λ to. g.met.S.Walked.passes c.args.buffer.now c.loop-c.c.at to (omega (arith, c.loop-c-test.true, c.len.ensures))) _ (omega (arith, c.loop-c-test.true, c.len.ensures)) c.in-Ok.ensures in
    omega (arith, h.0, c.loop-c-test.true, c.len.ensures)

pub loop-c-preserved : goal.loop-c-preserved
loop-c-preserved g c = (passing_on g.S.Source.words g.S.Source.placed g.S.Walked.amiss c.args.buffer.now _ c.loop-c.invariant (λ to. g.met.S.Walked.passes c.args.buffer.now c.loop-c.c.at to (omega (arith, c.loop-c-test.true, c.len.ensures))) _ (omega (arith, c.loop-c-test.true, c.len.ensures)) c.in-Ok.ensures).1

pub returns : goal.returns
returns g c = rw c.counts.ensures (passing_end g.S.Source.words g.S.Source.placed g.S.Walked.amiss c.args.buffer.now _ c.loop-c.invariant (g.met.S.Walked.ends c.args.buffer.now c.loop-c.c.at (omega (arith, c.loop-c-test.false, c.len.ensures))) (omega (arith, c.loop-c-test.false, c.len.ensures)))
