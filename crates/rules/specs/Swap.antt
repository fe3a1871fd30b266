-- The reader and the normaliser on boards that swap bytes (document 02, Ticket 7; CommandSwap, 001, 3.1.3).
use Rattle.std.specs.Prelude.{ℕ, zero, suc, cond, List, map, ltb}
use Rattle.rules.specs.Word.{little_endian, of_bytes}
use Rattle.rules.specs.Values.{refusal}
use Rattle.rules.specs.Answer.{Outcome, refuse, reading, normalising}

-- "a mode from 0 to 3: unchanged, bytes swapped in each half, halves swapped, all four bytes reversed"; it is asked
-- for no other
unfoldable pub swap : ℕ → ℕ → ℕ
swap zero w = w
swap (suc zero) w = of_bytes (λ a b c d. little_endian b a d c) w
swap (suc (suc zero)) w = of_bytes (λ a b c d. little_endian c d a b) w
swap (suc (suc (suc _))) w = of_bytes (λ a b c d. little_endian d c b a) w

-- "The word got at a position is now the swapped one": the words got from a list, payload too
abbrev pub words_got : ℕ → List ℕ → List ℕ
words_got mode ws = map (swap mode) ws

-- a call on a list, an image and a lent buffer
abbrev pub Call : Type 0
Call = List ℕ → List ℕ → List ℕ → Outcome

-- "21 for a mode over 3, at 0, before 1"; else the call on the words got, so "records, forms and image hold the words so got"
unfoldable pub in_mode : Call → List ℕ → List ℕ → List ℕ → ℕ → Outcome
in_mode call ws image buffer mode = cond (ltb 3 mode) (refuse (refusal 21 0) image buffer) (call (words_got mode ws) image buffer)

-- "The list reader and the normaliser take a mode"
abbrev pub reading_in : List ℕ → List ℕ → List ℕ → ℕ → Outcome
reading_in = in_mode reading

abbrev pub normalising_in : List ℕ → List ℕ → List ℕ → ℕ → Outcome
normalising_in = in_mode normalising
