use Prim.Native.Nat.{◌-◌}
use lib.ListN.{length}
use Rattle.draft.specs.Drafts.{made}
use Rattle.form.proofs.Forming.{Formed}
use Rattle.form.proofs.form.Given as goal

abbrev pub invariant-loop-draft : goal.invariant-loop-draft
invariant-loop-draft l = Formed l.image l.list l.initial.out (made l.draft l.memory l.out)

abbrev pub decreases-loop-draft : goal.decreases-loop-draft
decreases-loop-draft l = length l.list - l.draft.at
