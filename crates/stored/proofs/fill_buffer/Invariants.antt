-- What is to be put from a word on leaves what the whole leaves.
use Rattle.std.proofs.Common.{◌≡◌, ◌-◌, length}
use Rattle.std.proofs.lemmas.List.Edits.{sets}
use Rattle.stored.specs.Digest.{counting}
use Rattle.stored.proofs.fill_buffer.Given as goal

abbrev pub invariant-loop-word : goal.invariant-loop-word
invariant-loop-word l = sets l.buffer l.word-index (counting l.w (length l.initial.buffer - l.word-index)) ≡ counting 2768240640 (length l.initial.buffer)
