use mathlib.Core.Path.{refl}
use Rattle.endian.specs.Words.{bytes_of}
use Rattle.endian.proofs.Bytes.{bytes-more}
use Rattle.endian.proofs.store.Goals as goal

pub loop-i-init : goal.loop-i-init
unfolding bytes_of
loop-i-init c = refl

pub loop-i-preserved : goal.loop-i-preserved
loop-i-preserved c = bytes-more _ _ _ c.loop-i-test.true c.loop-i.invariant (rw c.to_le_bytes.ensures at c.put_all.ensures)
