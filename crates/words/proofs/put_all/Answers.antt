use Prim.Native.Nat.{◌<◌}
use native.Mathlib.Omega.{arith}
use lib.ListN.{length}
use Rattle.words.proofs.Sets.{sets_more}
use Rattle.words.proofs.put_all.Goals as goal

pub loop-i-preserved : goal.loop-i-preserved
loop-i-preserved g c = let h : c.loop-i.i < length c.args.items = omega arith in
    rw c.loop-i.invariant (sets_more _ _ _ _ _ h)
