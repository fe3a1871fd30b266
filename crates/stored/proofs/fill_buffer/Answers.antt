-- The word that is written is the next of those to be put.
use Rattle.std.proofs.Common.{length, refl, sym, ◌∙◌, arith}
use Rattle.stored.proofs.Laws.{filled_start, filled_on}
use Rattle.stored.proofs.fill_buffer.Goals as goal

pub loop-word-init : goal.loop-word-init
loop-word-init c = filled_start 2768240640 c.args.buffer.now

pub loop-word-preserved : goal.loop-word-preserved
loop-word-preserved c =
    let l = c.loop-word in
    sym (filled_on l.w l.word-index (length c.args.buffer.now) l.buffer (omega arith) refl) ∙ l.invariant
