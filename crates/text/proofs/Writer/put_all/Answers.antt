use Rattle.text.proofs.Parts.{wrote-more}
use Rattle.text.proofs.Writer.put_all.Goals as goal

pub loop-byte-preserved : goal.loop-byte-preserved
loop-byte-preserved c = wrote-more c.args.bytes.now _ c.loop-byte-test.true c.loop-byte.invariant c.put.ensures
