-- A scene book: scenes in one file, behind a table of contents (document 02, Ticket 8).
use Rattle.std.specs.Prelude.{ℕ, zero, suc, ◌+◌, ◌*◌, ◌/◌, ◌%◌, ◌≤◌, Bool, true, cond, not, ◌&&◌, ◌||◌, List, [], ◌∷◌, ◌++◌, eqb, leb, ltb, length, get_or, take, drop}
use Rattle.rules.specs.declared.Entry.{Entry}
use Rattle.rules.specs.Verdict.{SceneAnswer}
use Rattle.rules.specs.Verdict.{BookAnswer}
use Rattle.rules.specs.Session.{part}

-- ---- contents

-- "Each entry is three words: scene number, start, length." The first n entries of a table
abbrev pub entries : ℕ → List ℕ → List Entry
entries zero table = []
entries (suc n) table = record { number = get_or table 0 0; start = get_or table 1 0; length = get_or table 2 0 } ∷ entries n (drop 3 table)

-- "Scene numbers rise strictly"
abbrev pub rising : List Entry → Bool
rising [] = true
rising (e ∷ []) = true
rising (e ∷ f ∷ es) = ltb e.number f.number && rising (f ∷ es)

-- an entry's body in the words where "starts count"
abbrev pub body_in : List ℕ → Entry → List ℕ
body_in ws e = part ws e.start e.length

-- "Refusals, in this order": 22, 23 "numbers not rising", 24 for the bodies; 0 where there is none
abbrev pub fault_of : Bool → Bool → Bool → ℕ
fault_of cut rises placed = cond cut 22 (cond rises (cond placed 0 24) 23)

-- ---- the reader

-- "Its first word is the number of entries"
abbrev pub count : List ℕ → ℕ
count book = get_or book 0 0

abbrev pub contents : List ℕ → List Entry
contents book = entries (count book) (drop 1 book)

-- "contents table, then bodies": where the bodies begin, behind the first word and n entries
abbrev pub bodies_at : ℕ → ℕ
bodies_at n = 1 + 3 * n

-- "0 to 256"; 22 "table cut short or over 256"
abbrev pub cut_short : List ℕ → Bool
cut_short book = ltb 256 (count book) || ltb (length book) (bodies_at (count book))

-- "A body has at most 4,096 words." "bodies stand in contents order, touch each other, .. and end with the file": the next one
-- starts at a word, and behind the last is the end
abbrev pub in_place : ℕ → ℕ → List Entry → Bool
in_place at end [] = eqb at end
in_place at end (e ∷ es) = (leb e.length 4096 && eqb e.start at) && in_place (at + e.length) end es

-- 24 "a body too long or not where the rule puts it, or words left over": they "begin right after the table"
unfoldable pub book_fault : List ℕ → ℕ
book_fault book = fault_of (cut_short book) (rising (contents book)) (in_place (bodies_at (count book)) (length book) (contents book))

-- a refusal, with no words at no place
abbrev pub no_scene : ℕ → SceneAnswer
no_scene n = record { verdict = n; start = 0; length = 0 }

-- "Asked for a scene"; 25 "no such scene"
abbrev pub look_up : ℕ → List Entry → SceneAnswer
look_up number [] = no_scene 25
look_up number (e ∷ es) = cond (eqb e.number number) (record { verdict = 0; start = e.start; length = e.length }) (look_up number es)

-- the faults of a book come before 25, whatever scene is asked for
unfoldable pub finding_scene : List ℕ → ℕ → SceneAnswer
finding_scene book number = cond (eqb (book_fault book) 0) (look_up number (contents book)) (no_scene (book_fault book))

-- "the reader hands back that very stretch of the caller's buffer, an empty one on refusal"
abbrev pub stretch : List ℕ → SceneAnswer → List ℕ
stretch book a = part book a.start a.length

-- where the stretch is, as words for a caller
abbrev pub place_words : SceneAnswer → List ℕ
place_words a = a.start ∷ a.length ∷ []

-- ---- the writer

-- a scene: its number and its words
pub record Scene : Type 0 where
  pub number : ℕ
  pub body : List ℕ

-- the scenes of entries whose "starts count" in some words
abbrev pub scenes_in : List ℕ → List Entry → List Scene
scenes_in ws [] = []
scenes_in ws (e ∷ es) = record { number = e.number; body = body_in ws e } ∷ scenes_in ws es

-- the contents of scenes whose bodies begin at a word, one behind the other
abbrev pub contents_of : ℕ → List Scene → List ℕ
contents_of at [] = []
contents_of at (s ∷ ss) = s.number ∷ at ∷ length s.body ∷ contents_of (at + length s.body) ss

abbrev pub bodies : List Scene → List ℕ
bodies [] = []
bodies (s ∷ ss) = s.body ++ bodies ss

-- "one file: contents table, then bodies"
abbrev pub book_of : List Scene → List ℕ
book_of ss = length ss ∷ contents_of (bodies_at (length ss)) ss ++ bodies ss

-- "a table of such entries, with no count word, over a word buffer"
abbrev pub table_entries : List ℕ → List Entry
table_entries table = entries (length table / 3) table

abbrev pub table_scenes : List ℕ → List ℕ → List Scene
table_scenes table ws = scenes_in ws (table_entries table)

-- 22: of a last entry that is not whole, the table is "cut short"
abbrev pub table_cut : List ℕ → Bool
table_cut table = not (eqb (length table % 3) 0) || ltb 256 (length table / 3)

-- "24 for a body too long or outside its buffer" of some words
abbrev pub in_buffer : ℕ → List Entry → Bool
in_buffer words [] = true
in_buffer words (e ∷ es) = (leb e.length 4096 && leb (e.start + e.length) words) && in_buffer words es

unfoldable pub table_fault : List ℕ → List ℕ → ℕ
table_fault table ws = fault_of (table_cut table) (rising (table_entries table)) (in_buffer (length ws) (table_entries table))

-- the numbers of the answer
abbrev pub book_answer_words : BookAnswer → List ℕ
book_answer_words a = a.verdict ∷ a.words ∷ []

-- what the call returns, and the lent buffer after it
pub record BookOutcome : Type 0 where
  pub answer : BookAnswer
  pub buffer : List ℕ

-- "a refusal changes neither the image nor any buffer" (document 01)
abbrev pub book_outcome : BookAnswer → List ℕ → BookOutcome
book_outcome a buffer = record { answer = a; buffer = buffer }

abbrev pub book_answer : ℕ → ℕ → BookAnswer
book_answer verdict words = record { verdict = verdict; words = words }

abbrev pub no_book : ℕ → List ℕ → BookOutcome
no_book n buffer = book_outcome (book_answer n 0) buffer

-- 11 where the book does not fit; else its words, and "the words after those written are as before" (document 01)
abbrev pub put_book : List ℕ → List ℕ → BookOutcome
put_book book buffer =
    cond (ltb (length buffer) (length book)) (no_book 11 buffer)
    (book_outcome (book_answer 0 (length book)) (book ++ drop (length book) buffer))

-- "The writer gives 22, 23, 24 .. and, last, 11"
unfoldable pub writing_book : List ℕ → List ℕ → List ℕ → BookOutcome
writing_book table ws buffer =
    cond (eqb (table_fault table ws) 0) (put_book (book_of (table_scenes table ws)) buffer) (no_book (table_fault table ws) buffer)

-- ---- what is said of books

-- entry k of a table
abbrev pub entry_at : List ℕ → ℕ → Entry
entry_at table k = record { number = get_or table (3 * k) 0; start = get_or table (3 * k + 1) 0; length = get_or table (3 * k + 2) 0 }

-- a table that holds n entries, at most 256
pub record Holds (n : ℕ) (table : List ℕ) : Type 0 where
  pub few : n ≤ 256
  pub long : 3 * n ≤ length table

-- the words that the writer has written, alone
abbrev pub book_written : BookOutcome → List ℕ
book_written o = take o.answer.words o.buffer

-- the scenes of a book
abbrev pub scenes_of : List ℕ → List Scene
scenes_of book = scenes_in book (contents book)

-- what a caller gets when it asks for a scene: the verdict, and the words
pub record Told : Type 0 where
  pub verdict : ℕ
  pub words : List ℕ

abbrev pub told : List ℕ → SceneAnswer → Told
told book a = record { verdict = a.verdict; words = stretch book a }

abbrev pub asked : List ℕ → ℕ → Told
asked book number = told book (finding_scene book number)

-- a scene that is there, and one that is not
abbrev pub found : List ℕ → Told
found ws = record { verdict = 0; words = ws }

abbrev pub not_found : Told
not_found = record { verdict = 25; words = [] }

-- what scenes have under a number
abbrev pub scene_of : ℕ → List Scene → Told
scene_of number [] = not_found
scene_of number (s ∷ ss) = cond (eqb s.number number) (found s.body) (scene_of number ss)

-- the numbers rise strictly, from one on
abbrev pub Rise : ℕ → List Scene → Type 0
Rise n [] = Unit {0}
Rise n (s ∷ ss) = (n ≤ s.number) × Rise (suc s.number) ss

-- each body has at most 4,096 words
abbrev pub Short : List Scene → Type 0
Short [] = Unit {0}
Short (s ∷ ss) = (length s.body ≤ 4096) × Short ss

-- scenes that a book can hold: a set of scenes, in the order of its numbers
pub record FitsBook (ss : List Scene) : Type 0 where
  pub few : length ss ≤ 256
  pub rise : Rise 0 ss
  pub short : Short ss
