use Prim.Native.Nat.{◌-◌}
use lib.ListN.{length}
use Rattle.list.proofs.Stepping.{Passing}
use Rattle.list.proofs.walk.Given as goal

abbrev pub invariant-loop-c : goal.invariant-loop-c
invariant-loop-c g l = Passing g.S.Source.words g.S.Source.placed g.S.Walked.amiss l.buffer l.c

abbrev pub decreases-loop-c : goal.decreases-loop-c
decreases-loop-c g l = length (g.S.Source.words l.buffer) - l.c.at
