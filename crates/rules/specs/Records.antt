-- The records of work (document 01, "What a command leaves").
use Rattle.std.specs.Prelude.{ℕ, suc, ◌+◌, cond, List, [], ◌∷◌, length}
use Rattle.rules.specs.Table.{is_setting}
use Rattle.rules.specs.Command.{Command}

-- "id, position of its first word, its length in words with payload, header"
pub record Record : Type 0 where
  pub id : ℕ
  pub position : ℕ
  pub size : ℕ
  pub header : ℕ

-- "Each work command gives one record, in list order. .. Settings give none." The first command stands at position p.
abbrev pub records : ℕ → List Command → List Record
records p [] = []
records p (c ∷ cs) =
    let n = suc (length c.rest) in
    let later = records (p + n) cs in
    cond (is_setting c.row.kind) later (record { id = c.row.id; position = p; size = n; header = c.header } ∷ later)

-- "A record takes four words."
abbrev pub record_words : List Record → List ℕ
record_words [] = []
record_words (r ∷ rs) = r.id ∷ r.position ∷ r.size ∷ r.header ∷ record_words rs

-- the words of some records but for the positions: "id, length and header"
abbrev pub without_positions : List ℕ → List ℕ
without_positions [] = []
without_positions (i ∷ []) = []
without_positions (i ∷ p ∷ []) = []
without_positions (i ∷ p ∷ n ∷ []) = []
without_positions (i ∷ p ∷ n ∷ h ∷ rest) = i ∷ n ∷ h ∷ without_positions rest
