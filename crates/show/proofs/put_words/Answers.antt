use native.Mathlib.Numerals.{add-one}
use mathlib.Core.Path.{refl}
use lib.Seq.{drop-cons}
use Rattle.std.proofs.lemmas.List.{drop_all}
use Rattle.text.proofs.Parts.{wrote_then, wrote_none}
use Rattle.show.specs.Show.{words_text}
use Rattle.show.proofs.put_words.Goals as goal

pub loop-word-preserved : goal.loop-word-preserved
unfolding words_text
loop-word-preserved c w a =
    c.loop-word.invariant w
    (rw (drop-cons c.args.words.now c.loop-word.word-index 0 c.loop-word-test.true) (wrote_then c.put_format.ensures (rw add-one at a)))

pub returns : goal.returns
unfolding words_text
returns c = c.loop-word.invariant _ (rw (drop_all c.loop-word.word-index c.args.words.now c.loop-word-test.false) (wrote_none refl))
