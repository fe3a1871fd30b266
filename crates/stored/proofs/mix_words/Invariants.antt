-- What the words that are left make of the digest is what all make of the start.
use Rattle.std.proofs.Common.{◌≡◌, drop}
use Rattle.stored.specs.Digest.{mixed_all}
use Rattle.stored.proofs.mix_words.Given as goal

abbrev pub invariant-loop-word : goal.invariant-loop-word
invariant-loop-word l = mixed_all l.digest (drop l.word-index l.words) ≡ mixed_all l.start l.words
