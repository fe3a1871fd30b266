-- The whole answers of the reader, the normaliser and the measurer (document 01, "Verdicts and what stays"; document 02,
-- Ticket 4).
use Rattle.std.specs.Prelude.{ℕ, ◌/◌, ◌≡◌, Bool, cond, List, [], ◌∷◌, ◌++◌, eqb, ltb, length, get_or, take, drop}
use Rattle.rules.specs.Verdict.{Answer}
use Rattle.rules.specs.Word.{LowestUndefinedAt}
use Rattle.rules.specs.Command.{Command, words_all}
use Rattle.rules.specs.Place.{word_mask}
use Rattle.rules.specs.Verdict.{Refusal}
use Rattle.rules.specs.Values.{refusal}
use Rattle.rules.specs.Walk.{Parsed, refused, accepted, parse}
use Rattle.rules.specs.Image.{final}
use Rattle.rules.specs.Records.{records, record_words}
use Rattle.rules.specs.Effect.{Effect, effect}
use Rattle.rules.specs.Form.{form}

-- "The answer has verdict, position, commands, records, and words written to the lent buffer." "With 6, the answer now
-- also gives the number of the lowest undefined bit": the sixth.
abbrev pub answer_words : Answer → List ℕ
answer_words a = a.verdict ∷ a.position ∷ a.commands ∷ a.records ∷ a.words ∷ a.bit ∷ []

-- what a call returns, and the image and the lent buffer after it
pub record Outcome : Type 0 where
  pub answer : Answer
  pub image : List ℕ
  pub buffer : List ℕ

abbrev pub outcome : Answer → List ℕ → List ℕ → Outcome
outcome a image buffer = record { answer = a; image = image; buffer = buffer }

-- "On refusal the last three are 0, and image and buffers are as before."
abbrev pub refused_answer : Refusal → Answer
refused_answer f = record { verdict = f.number; position = f.word; commands = 0; records = 0; words = 0; bit = f.bit }

-- the refusal that an answer tells
abbrev pub refusal_of : Answer → Refusal
refusal_of a = record { number = a.verdict; word = a.position; bit = a.bit }

abbrev pub refuse : Refusal → List ℕ → List ℕ → Outcome
refuse f image buffer = outcome (refused_answer f) image buffer

-- with 6 the bit is one of the word's, and "every other verdict gives 32 there"
abbrev pub tells_bit : Answer → Bool
tells_bit a = cond (eqb a.verdict 6) (ltb a.bit 32) (eqb a.bit 32)

-- "With 6, .. the number of the lowest undefined bit set in that word" (document 02, Ticket 2): the list's word at the
-- position, under its mask
abbrev pub TellsLowest : List ℕ → Answer → Type 0
TellsLowest ws a = a.verdict ≡ 6 → LowestUndefinedAt (get_or ws a.position 0) (word_mask ws a.position) a.bit

-- 0 at a position with the counts of commands, records and words, and bit 32
abbrev pub accepted_answer : ℕ → ℕ → ℕ → ℕ → Answer
accepted_answer p c r w = record { verdict = 0; position = p; commands = c; records = r; words = w; bit = 32 }

-- 0 at "the list's length", with the counts of its commands and its records, and a number of words
abbrev pub accepted_list : List ℕ → List Command → ℕ → Answer
accepted_list ws cs words = accepted_answer (length ws) (length cs) (length (records 0 cs)) words

-- the same, with the words written. "On acceptance the words after those written are as before."
abbrev pub accept : List ℕ → List Command → List ℕ → List ℕ → List ℕ → Outcome
accept ws cs written image buffer = outcome (accepted_list ws cs (length written)) image (written ++ drop (length written) buffer)

-- 11 "record or output buffer too small", at "the list's length", "exactly when what is to be written doesn't fit"
abbrev pub fitting : Bool → List ℕ → List ℕ → List ℕ → Outcome → Outcome
fitting small ws image buffer done = cond small (refuse (refusal 11 (length ws)) image buffer) done

-- "The room in a record buffer is its length divided by four, rounded down."
abbrev pub room : List ℕ → ℕ
room buffer = length buffer / 4

abbrev pub read_parsed : List ℕ → List ℕ → List ℕ → Parsed → Outcome
read_parsed ws image buffer (refused f) = refuse f image buffer
read_parsed ws image buffer (accepted cs) =
    fitting (ltb (room buffer) (length (records 0 cs))) ws image buffer
    (accept ws cs (record_words (records 0 cs)) (final image cs) buffer)

-- a call that only reads the image and writes words made of the commands
abbrev pub write_parsed : (List Command → List ℕ) → List ℕ → List ℕ → List ℕ → Parsed → Outcome
write_parsed made ws image buffer (refused f) = refuse f image buffer
write_parsed made ws image buffer (accepted cs) =
    fitting (ltb (length buffer) (length (made cs))) ws image buffer (accept ws cs (made cs) image buffer)

-- "A reader: from a list, a register image and a record buffer to a verdict, the new image and the records of work."
unfoldable pub reading : List ℕ → List ℕ → List ℕ → Outcome
reading ws image buffer = read_parsed ws image buffer (parse image ws)

-- "A normaliser: from a list, a starting image and an output buffer to the normal form. It only reads the image. ..
-- The normaliser's commands and records are those of the list it was given."
unfoldable pub normalising : List ℕ → List ℕ → List ℕ → Outcome
normalising ws image buffer = write_parsed (λ cs. words_all (form image cs)) ws image buffer (parse image ws)

abbrev pub measure_parsed : List ℕ → List ℕ → Parsed → Answer
measure_parsed ws image (refused f) = refused_answer f
measure_parsed ws image (accepted cs) = accepted_list ws cs (length (words_all (form image cs)))

-- "a question on a list and an image that answers verdict, position and the normal form's length (0 on refusal), with the
-- normaliser's refusals except 11": without a buffer nothing is to fit
unfoldable pub measuring : List ℕ → List ℕ → Answer
measuring ws image = measure_parsed ws image (parse image ws)

-- the commands of an accepted list, none of one that is refused
abbrev pub commands_of : Parsed → List Command
commands_of (refused f) = []
commands_of (accepted cs) = cs

-- the commands of a list from an image, and that the list is accepted with them
abbrev pub commands_from : List ℕ → List ℕ → List Command
commands_from image ws = commands_of (parse image ws)

abbrev pub IsAccepted : List ℕ → List ℕ → Type 0
IsAccepted image ws = parse image ws ≡ accepted (commands_from image ws)

-- the words of its records
abbrev pub records_from : List ℕ → List ℕ → List ℕ
records_from image ws = record_words (records 0 (commands_from image ws))

-- what an accepted list does from an image
abbrev pub does : List ℕ → List ℕ → Effect
does image ws = effect image (commands_from image ws)

-- the words of an accepted list's normal form
abbrev pub normal_form : List ℕ → List ℕ → List ℕ
normal_form image ws = words_all (form image (commands_from image ws))

-- the words that a call has written, alone
abbrev pub written : Outcome → List ℕ
written o = take o.answer.words o.buffer
