use Prim.Native.Nat.{◌≤◌, ◌-◌}
use lib.ListN.{length}
use Rattle.rules.specs.Walk.{parse}
use Rattle.rules.specs.Answer.{commands_of}
use Rattle.reader.proofs.Applying.{Applying}
use Rattle.reader.proofs.apply_list.Given as goal

abbrev pub invariant-loop-p : goal.invariant-loop-p
invariant-loop-p l = (length l.list ≤ 4096) × Applying (commands_of (parse l.initial.image l.list)) l.list l.initial.image l.initial.buffer l.p l.image l.buffer

abbrev pub decreases-loop-p : goal.decreases-loop-p
decreases-loop-p l = length l.list - l.p.at
