-- The rows of document 01's table by their numbers, and the masks by row and word: the two tables that a caller lends.
use Rattle.std.specs.Prelude.{ℕ, zero, suc, ◌+◌, ◌*◌, ◌/◌, ◌%◌, Bool, false, cond, ◌||◌, List, [], ◌∷◌, eqb, leb, length, get_or}
use Rattle.std.proofs.Math.Option.{Option, none, some}
use Rattle.rules.specs.Word.{header_of}
use Rattle.rules.specs.Table.{Line, lines, plain, Row, row_with, row_of}
use Rattle.table.specs.declared.Group.{Group}

-- how many rows there are
abbrev pub row_count : ℕ
row_count = length lines

-- the rows that are asked for by number: of one word the settings and the surface bases, of four BEGIN and the first setting
abbrev pub timer_row : ℕ
timer_row = 2

abbrev pub begin_row : ℕ
begin_row = 4

abbrev pub base_row : ℕ
base_row = 6

abbrev pub extended_row : ℕ
extended_row = 7

abbrev pub clip_row : ℕ
clip_row = 11

-- a setting by its row, of a command of four words and of one
abbrev pub setting_row : Bool → ℕ → Bool
setting_row group row = cond group (leb clip_row row) (eqb row timer_row || leb extended_row row)

abbrev pub has : List ℕ → ℕ → Bool
has [] id = false
has (i ∷ is) id = eqb i id || has is id

abbrev pub row_in : List Line → ℕ → ℕ
row_in [] id = zero
row_in (l ∷ ls) id = cond (has l.ids id) zero (suc (row_in ls id))

-- the number of the row that has an id, `row_count` where none has
unfoldable pub row_number : ℕ → ℕ
row_number id = row_in lines id

-- what a rule gives for the n numbers from i on
abbrev pub tabulate : ℕ → ℕ → (ℕ → ℕ) → List ℕ
tabulate zero i f = []
tabulate (suc n) i f = f i ∷ tabulate n (suc i) f

unfoldable pub row_table : List ℕ
unfolding row_number
row_table = tabulate 256 0 row_number

abbrev pub or_unknown : Option Row → Row
or_unknown none = record { id = 0; mask = 0; more = []; kind = plain }
or_unknown (some r) = r

-- the row of a known id
unfoldable pub row_at : ℕ → Row
unfolding row_of
row_at id = or_unknown (row_of id)

-- the mask of a word of a row's command; a word that the row does not have has every bit
abbrev pub mask_of : Row → ℕ → ℕ
mask_of r word = get_or (r.mask ∷ r.more) word 0xFFFFFFFF

abbrev pub masks_of : Row → List ℕ
masks_of r = mask_of r 0 ∷ mask_of r 1 ∷ mask_of r 2 ∷ mask_of r 3 ∷ []

-- the mask of a word by the number of the row
unfoldable pub mask_at : ℕ → ℕ → ℕ
mask_at row word = mask_of (row_with (get_or lines row (record { ids = []; mask = 0; more = []; kind = plain })) 0) word

abbrev pub row_masks : ℕ → List ℕ
row_masks row = mask_at row 0 ∷ mask_at row 1 ∷ mask_at row 2 ∷ mask_at row 3 ∷ []

-- the masks of all rows, four to a row
unfoldable pub mask_table : List ℕ
unfolding mask_at
mask_table = tabulate (row_count * 4) 0 (λ i. mask_at (i / 4) (i % 4))

-- a group's words after the first
abbrev pub more : Group → List ℕ
more g = g.second ∷ g.third ∷ g.fourth ∷ []

abbrev pub group : ℕ → ℕ → ℕ → ℕ → Group
group h a b c = record { header = h; second = a; third = b; fourth = c }

-- the group whose first word stands at a position of a list
abbrev pub group_at : List ℕ → ℕ → Group
group_at l at = group (header_of (get_or l at 0)) (get_or l (at + 1) 0) (get_or l (at + 2) 0) (get_or l (at + 3) 0)
