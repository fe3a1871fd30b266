use Prim.Native.Nat.{◌/◌, ◌<◌}
use native.Mathlib.Omega.{arith}
use mathlib.Core.Path.{refl, ◌∙◌}
use lib.ListN.{length}
use Rattle.endian.specs.Words.{words_of}
use Rattle.endian.proofs.Words.{chunk-word, words_more, words-all}
use Rattle.endian.proofs.load.Goals as goal

pub loop-i-init : goal.loop-i-init
unfolding words_of
loop-i-init c = refl

pub loop-i-preserved : goal.loop-i-preserved
loop-i-preserved c =
    let n : c.loop-i.i < length c.args.input.now / 4 = omega (arith, c.as_chunks.ensures.front_len) in
    let w = rw c.as_chunks.ensures.front at c.little_endian.ensures in
    words_more _ _ _ n c.loop-i.invariant (w ∙ chunk-word (length c.args.input.now / 4) c.loop-i.i c.args.input.now n (omega arith)) c.put.ensures

pub returns : goal.returns
returns c = words-all _ _ _ (omega (arith, c.as_chunks.ensures.front_len)) (omega (arith, c.as_chunks.ensures.front_len)) c.loop-i.invariant
