-- What the loops over the entries of a table stand on.
use Rattle.std.specs.Prelude.{ℕ, ◌+◌, ◌^◌, ◌≤◌, ◌<◌, ◌≡◌, Bool, true, cond, List, [], ◌∷◌, length, get_or, Result, Ok, Err}
use Rattle.std.proofs.lemmas.List.Edits.{sets}
use Rattle.rules.specs.declared.Entry.{Entry}
use Rattle.rules.specs.declared.Reason.{Reason}
use Rattle.rules.specs.declared.Reason.TheVariants.{NumbersFall, BodiesMisplaced}
use Rattle.rules.specs.Book.{body_in, bodies_at, scenes_in, book_of, in_buffer}

-- an entry by its three words
abbrev pub entry_of : List ℕ → Entry
entry_of ws = record { number = get_or ws 0 0; start = get_or ws 1 0; length = get_or ws 2 0 }

abbrev pub entries_of : List (List ℕ) → List Entry
entries_of [] = []
entries_of (ws ∷ rest) = entry_of ws ∷ entries_of rest

-- the fault of contents whose numbers rise or not and whose bodies are in place or not
abbrev pub checked : Bool → Bool → Result (Unit {0}) Reason
checked rises placed = cond rises (cond placed (Ok tt) (Err BodiesMisplaced)) (Err NumbersFall)

-- the words of all bodies
abbrev pub total : List Entry → ℕ
total [] = 0
total (e ∷ es) = e.length + total es

-- the words of the book
abbrev pub book_size : List Entry → ℕ
book_size es = bodies_at (length es) + total es

abbrev pub size_or_fault : ℕ → List Entry → Result ℕ Reason
size_or_fault words es = cond (in_buffer words es) (Ok (book_size es)) (Err BodiesMisplaced)

-- bodies inside a buffer of some words, and room for the book
pub record CanWrite (es : List Entry) (ws book : List ℕ) : Type 0 where
  pub inside : in_buffer (length ws) es ≡ true
  pub fits : book_size es ≤ length book

-- there is room for an entry at word i, and for its body at a word
pub record CanPut (e : Entry) (ws : List ℕ) (i at : ℕ) (book : List ℕ) : Type 0 where
  pub short : e.length ≤ 4096
  pub inside : e.start + e.length ≤ length ws
  pub entry : i + 3 ≤ length book
  pub body : at + e.length ≤ length book
  pub word : at < 2 ^ 32

-- the book with one scene more: its entry at word i, its body at a word
abbrev pub with_scene : List ℕ → ℕ → ℕ → Entry → List ℕ → List ℕ
with_scene ws i at e book = sets (sets book i (e.number ∷ at ∷ e.length ∷ [])) at (body_in ws e)

-- the same of all entries
abbrev pub with_scenes : List ℕ → ℕ → ℕ → List Entry → List ℕ → List ℕ
with_scenes ws i at [] book = book
with_scenes ws i at (e ∷ es) book = with_scenes ws (3 + i) (at + e.length) es (with_scene ws i at e book)

-- the buffer with the book of entries in front
abbrev pub with_book : List ℕ → List Entry → List ℕ → List ℕ
with_book ws es book = sets book 0 (book_of (scenes_in ws es))
