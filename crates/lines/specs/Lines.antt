-- The lines of a listing (document 01, "The listing").
use Rattle.std.specs.Prelude.{ℕ, ◌+◌, List, [], ◌∷◌, get_or}
use Rattle.endian.specs.Words.{chunks}
use Rattle.text.specs.Text.{ascii}
use Rattle.format.specs.Format.{formatted}

-- a record's line by a format: position, id, length, header, and the id again for a name from a table
abbrev pub record_line : List ℕ → List ℕ → ℕ → ℕ → ℕ → ℕ → List ℕ
record_line table format id position size header = formatted table format (position ∷ id ∷ size ∷ header ∷ id ∷ [])

-- the lines of some records, from their words
abbrev pub record_lines : List ℕ → List ℕ → List ℕ → List ℕ
record_lines table format ws = chunks (record_line table format) ws

-- "a line per record: position decimal, id as two hex digits, length decimal, header as six hex digits"
abbrev pub line : ℕ → ℕ → ℕ → ℕ → List ℕ
line = record_line [] (ascii "%d %2 %d %6\n")

-- "The last line has the counts."
abbrev pub counts_line : ℕ → ℕ → List ℕ
counts_line commands items = formatted [] (ascii "accepted commands %d items %d\n") (commands ∷ items ∷ [])

-- "A refusal prints only `refused N at P`."
abbrev pub refused_line : ℕ → ℕ → List ℕ
refused_line number position = formatted [] (ascii "refused %d at %d\n") (number ∷ position ∷ [])

-- the line of the record whose first word is at i
abbrev pub line_at : List ℕ → List ℕ → List ℕ → ℕ → List ℕ
line_at table format ws i = record_line table format (get_or ws i 0) (get_or ws (i + 1) 0) (get_or ws (i + 2) 0) (get_or ws (i + 3) 0)
