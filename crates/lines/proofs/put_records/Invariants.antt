use lib.ListN.{length}
use Rattle.text.specs.declared.Writer.{Writer}
use Rattle.text.specs.Wrote.{Wrote}
use Rattle.lines.specs.Lines.{record_lines}
use Rattle.lines.proofs.put_records.Given as goal

-- the lines of the records that are left complete those of all
abbrev pub invariant-loop-rest : goal.invariant-loop-rest
invariant-loop-rest l =
    (w : Writer) → Wrote (record_lines l.table l.format l.rest) l.writer w
    → Wrote (record_lines l.table l.format l.records) l.initial.writer w

abbrev pub decreases-loop-rest : goal.decreases-loop-rest
decreases-loop-rest l = length l.rest
