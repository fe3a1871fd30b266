use native.Mathlib.Omega.{arith}
use Rattle.swap.specs.Mode.{mode_number}
use Rattle.swap.proofs.Calls.{got_more}
use Rattle.swap.proofs.words_got.Goals as goal

pub loop-i-preserved : goal.loop-i-preserved
loop-i-preserved c = let a = c.args in
    let l = c.loop-i in
    got_more (mode_number a.mode) a.list.now l.room l.i c.loop-i-test.true (omega arith) l.invariant c.swap.ensures
