use Prim.Native.Nat.{◌-◌}
use Rattle.text.specs.declared.Writer.{Writer}
use Rattle.text.specs.Wrote.{Wrote}
use Rattle.show.specs.Changes.{lines_from}
use Rattle.show.proofs.put_sets.Given as goal

-- the lines of the ids that are left complete those of all
abbrev pub invariant-loop-id : goal.invariant-loop-id
invariant-loop-id l =
    (w : Writer) → Wrote (lines_from (256 - l.id) l.id l.before l.after) l.writer w
    → Wrote (lines_from 256 0 l.before l.after) l.initial.writer w
