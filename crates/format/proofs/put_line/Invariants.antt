use lib.ListN.{take}
use Rattle.text.specs.Wrote.{Wrote}
use Rattle.format.proofs.Tables.{LineGoesOn}
use Rattle.format.proofs.put_line.Given as goal

abbrev pub invariant-loop-byte : goal.invariant-loop-byte
invariant-loop-byte l = LineGoesOn l.byte-index l.lines × Wrote (take l.byte-index l.lines) l.initial.writer l.writer
