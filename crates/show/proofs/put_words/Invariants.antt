use lib.ListN.{drop}
use Rattle.text.specs.declared.Writer.{Writer}
use Rattle.text.specs.Wrote.{Wrote}
use Rattle.show.specs.Show.{words_text}
use Rattle.show.proofs.put_words.Given as goal

-- the words that are left complete the text of all
abbrev pub invariant-loop-word : goal.invariant-loop-word
invariant-loop-word l =
    (w : Writer) → Wrote (words_text (drop l.word-index l.words)) l.writer w → Wrote (words_text l.words) l.initial.writer w
