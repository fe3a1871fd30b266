-- The listing of some bytes (document 01, "The listing").
use Rattle.std.specs.Prelude.{ℕ, ◌/◌, ◌%◌, cond, List, [], ◌++◌, eqb, ltb, length}
use Rattle.std.proofs.lemmas.List.Edits.{sets}
use Rattle.rules.specs.Verdict.{Answer}
use Rattle.rules.specs.Values.{refusal}
use Rattle.rules.specs.Answer.{Outcome, refuse, reading, written}
use Rattle.endian.specs.Words.{chunks, words_of}
use Rattle.text.specs.Text.{ascii}
use Rattle.lines.specs.Lines.{line, counts_line, refused_line}

-- "Over 16,384 bytes is refusal 1, ahead of 12; 12 comes before any command is read." 12 is "bytes not a multiple of
-- four".
abbrev by_size : {A : Type 0} → List ℕ → A → A → A → A
by_size input over uneven whole = cond (ltb 16384 (length input)) over (cond (eqb (length input % 4) 0) whole uneven)

-- the reader's outcome on the words of some bytes, 1 at 4096, or 12 at the "whole words read"
unfoldable pub read_bytes : List ℕ → List ℕ → List ℕ → Outcome
read_bytes input image records =
    by_size input (refuse (refusal 1 4096) image records) (refuse (refusal 12 (length input / 4)) image records)
    (reading (words_of input) image records)

-- the words that the reader gets: none where the bytes are refused
unfoldable pub words_read : List ℕ → List ℕ
words_read input = by_size input [] [] (words_of input)

-- "It prints a header line, then a line per record .. The last line has the counts. A refusal prints only `refused N at
-- P`." From an answer and the words of the records.
unfoldable pub listed : Answer → List ℕ → List ℕ
listed a ws =
    cond (eqb a.verdict 0)
    (ascii "at id words head\n"
    ++ (chunks line ws ++ counts_line a.commands a.records))
    (refused_line a.verdict a.position)

-- the whole text of a listing
abbrev pub text_of : Outcome → List ℕ
text_of o = listed o.answer (written o)

-- the listing's length, and the image and the buffers of records and of text after a call. The listing stands in front in the
-- text's buffer; what does not fit is left out.
pub record Printed : Type 0 where
  pub size : ℕ
  pub image : List ℕ
  pub records : List ℕ
  pub text : List ℕ

abbrev pub printing : ℕ → List ℕ → List ℕ → List ℕ → Printed
printing size image records text = record { size = size; image = image; records = records; text = text }

unfoldable pub printed : List ℕ → List ℕ → List ℕ → List ℕ → Printed
printed input image records text =
    let o = read_bytes input image records in
    printing (length (text_of o)) o.image o.buffer (sets text 0 (text_of o))
