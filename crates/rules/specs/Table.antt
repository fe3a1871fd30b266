-- The table of commands (document 01, "The commands").
use Rattle.std.specs.Prelude.{ℕ, suc, Bool, true, false, cond, ◌||◌, List, [], ◌∷◌, eqb, length}
use Rattle.std.proofs.Math.Option.{Option, none, some}

-- A setting, or one of three kinds of work, by what it leaves in the image: nothing, its header in the word of its id,
-- or, of a BEGIN, its header in word 08.
pub data Kind : Type 0 where
  setting plain keeps begins : Kind

-- a row of the table: the ids, the mask of the header, the masks of the other words, and the kind
pub record Line : Type 0 where
  pub ids : List ℕ
  pub mask : ℕ
  pub more : List ℕ
  pub kind : Kind

abbrev line : List ℕ → ℕ → List ℕ → Kind → Line
line is m ms k = record { ids = is; mask = m; more = ms; kind = k }

abbrev full : List ℕ
full = 0xFFFFFFFF ∷ 0xFFFFFFFF ∷ 0xFFFFFFFF ∷ []

-- the table, as the paper has it
abbrev pub lines : List Line
lines =
    line (0x00 ∷ []) 0xFFFFFF [] plain
    ∷ line (0x01 ∷ []) 0x000714 [] plain
    ∷ line (0x02 ∷ []) 0xFFFFFF [] setting
    ∷ line (0x05 ∷ []) 0xFFFFFF [] keeps
    ∷ line (0x08 ∷ 0x0C ∷ 0x10 ∷ 0x14 ∷ []) 0xFFFFFF (0x803FFFFF ∷ 0x0FFFFFFF ∷ 0x00000000 ∷ []) begins
    ∷ line (0x20 ∷ 0x22 ∷ 0x24 ∷ []) 0x00000F [] keeps
    ∷ line (0x21 ∷ 0x23 ∷ 0x25 ∷ []) 0xFFFFFF [] keeps
    ∷ line (0x26 ∷ []) 0x8F8F8F [] setting
    ∷ line (0x30 ∷ 0x31 ∷ []) 0xFFFFFF [] setting
    ∷ line (0x40 ∷ []) 0xF7FDFF full plain
    ∷ line (0x48 ∷ []) 0xFFFFFF full plain
    ∷ line (0x84 ∷ []) 0xFFFFFF (0x3FFF0FFF ∷ 0xFFFFFFFF ∷ 0xFFFFFFFF ∷ []) setting
    ∷ line (0x88 ∷ []) 0xE7FFFF (0x00FFFFFF ∷ 0x003FFFFF ∷ 0x00FFFFFF ∷ []) setting
    ∷ line (0x8C ∷ []) 0xFFFFFF full setting
    ∷ line (0x90 ∷ []) 0xFFFFFF (0x00FFFFFF ∷ 0x0FFF0FFF ∷ 0x0FFF0FFF ∷ []) setting
    ∷ line (0xC4 ∷ []) 0x000000 full setting
    ∷ []

-- the row of a command: its id, with its masks and its kind
pub record Row : Type 0 where
  pub id : ℕ
  pub mask : ℕ
  pub more : List ℕ
  pub kind : Kind

abbrev pub row_with : Line → ℕ → Row
row_with l i = record { id = i; mask = l.mask; more = l.more; kind = l.kind }

-- a row for each id, before some others
abbrev rows_with : Line → List ℕ → List Row → List Row
rows_with l [] others = others
rows_with l (i ∷ is) others = row_with l i ∷ rows_with l is others

abbrev rows_of : List Line → List Row
rows_of [] = []
rows_of (l ∷ ls) = rows_with l l.ids (rows_of ls)

unfoldable pub table : List Row
table = rows_of lines

abbrev pub find : ℕ → List Row → Option Row
find i [] = none
find i (r ∷ rs) = cond (eqb r.id i) (some r) (find i rs)

-- the row of an id; "Every other id is unknown."
unfoldable pub row_of : ℕ → Option Row
unfolding table
row_of i = find i table

abbrev pub is_setting : Kind → Bool
is_setting setting = true
is_setting plain = false
is_setting keeps = false
is_setting begins = false

abbrev pub is_begin : Kind → Bool
is_begin setting = false
is_begin plain = false
is_begin keeps = false
is_begin begins = true

-- "a surface base command (21, 23 or 25)"
unfoldable pub is_base : ℕ → Bool
is_base i = eqb i 0x21 || (eqb i 0x23 || eqb i 0x25)

-- "One mask means a command of one word, four masks a group of four."
abbrev pub size : Row → ℕ
size r = suc (length r.more)

abbrev pub only_settings : List Row → List Row
only_settings [] = []
only_settings (r ∷ rs) = cond (is_setting r.kind) (r ∷ only_settings rs) (only_settings rs)

-- the settings; the table has them in rising id
unfoldable pub settings : List Row
unfolding table
settings = only_settings table
