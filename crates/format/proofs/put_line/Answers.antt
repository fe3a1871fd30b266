use Rattle.text.proofs.Parts.{wrote-more}
use Rattle.format.proofs.Tables.{line-further, line_end, line_whole}
use Rattle.format.proofs.put_line.Goals as goal

pub returns-then-byte-eq10 : goal.returns-then-byte-eq10
returns-then-byte-eq10 c = rw (line_end _ _ c.loop-byte.invariant.0 c.loop-byte-test.true c.if-byte-eq10.true) c.loop-byte.invariant.1

pub loop-byte-preserved : goal.loop-byte-preserved
loop-byte-preserved c = (
  line-further _ _ c.loop-byte.invariant.0 c.loop-byte-test.true c.if-byte-eq10.false,
  wrote-more c.args.lines.now _ c.loop-byte-test.true c.loop-byte.invariant.1 c.put.ensures,
)

pub returns : goal.returns
returns c = rw (line_whole _ _ c.loop-byte.invariant.0 c.loop-byte-test.false) c.loop-byte.invariant.1
