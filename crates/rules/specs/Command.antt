-- A command of a list.
use Rattle.std.specs.Prelude.{ℕ, suc, ◌+◌, ◌*◌, cond, List, [], ◌∷◌, ◌++◌, eqb, length, take}
use Rattle.std.proofs.Math.Option.{Option, none, some}
use Rattle.rules.specs.Word.{bits, id_of, header_of, first_word}
use Rattle.rules.specs.Table.{Row, row_of}

-- its row, its header, and its words after the first, payload included
pub record Command : Type 0 where
  pub row : Row
  pub header : ℕ
  pub rest : List ℕ

abbrev pub words : Command → List ℕ
words c = first_word c.row.id c.header ∷ c.rest

abbrev pub words_all : List Command → List ℕ
words_all [] = []
words_all (c ∷ cs) = words c ++ words_all cs

-- the masks of a command's own words after the first
abbrev pub more_masks : Row → ℕ → List ℕ
more_masks r header = r.more

-- the words behind a command's own, by its header and its own words after the first. LOAD_GP: "bits 8..0 the length. The
-- group is followed by length groups of four words." Others have no payload.
unfoldable pub payload : ℕ → ℕ → List ℕ → ℕ
payload id header own = cond (eqb id 0x40) (4 * bits header 0 9) 0

-- how many of the words that follow a command's first are its own, and how many are the command's, payload included
abbrev pub own_size : Row → ℕ → ℕ
own_size r header = length (more_masks r header)

abbrev pub rest_size : Row → ℕ → List ℕ → ℕ
rest_size r header ws = own_size r header + payload r.id header (take (own_size r header) ws)

-- the words of the command whose first word is w, before the words ws; an unknown id stands for one word
abbrev pub size_of : ℕ → List ℕ → Option Row → ℕ
size_of header ws none = 1
size_of header ws (some r) = suc (rest_size r header ws)

unfoldable pub command_size : ℕ → List ℕ → ℕ
command_size w ws = size_of (header_of w) ws (row_of (id_of w))
