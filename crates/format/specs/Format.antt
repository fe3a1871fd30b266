-- Texts with holes for numbers, and tables of text.
use Rattle.std.specs.Prelude.{ℕ, ◌/◌, ◌%◌, Bool, true, cond, ◌&&◌, List, [], ◌∷◌, ◌++◌, eqb}
use Rattle.text.specs.Text.{digit, hex, decimal}

-- ---- tables: a row on each line, behind a key of two bytes

-- the bytes before the first line's end
unfoldable pub line_of : List ℕ → List ℕ
line_of [] = []
line_of (c ∷ cs) = cond (eqb c 0x0A) [] (c ∷ line_of cs)

-- what stands behind the key a b on the first line that has it, from where a line begins or not; nothing where no line has it
unfoldable pub row_from : ℕ → ℕ → Bool → List ℕ → List ℕ
row_from a b fresh [] = []
row_from a b fresh (x ∷ []) = []
row_from a b fresh (x ∷ y ∷ cs) = cond (fresh && (eqb x a && eqb y b)) (line_of cs) (row_from a b (eqb x 0x0A) (y ∷ cs))

abbrev pub table_row : List ℕ → ℕ → ℕ → List ℕ
table_row table a b = row_from a b true table

-- the row whose key is a number's last two hexadecimal digits
abbrev pub hex_row : List ℕ → ℕ → List ℕ
hex_row table n = table_row table (digit (n / 16 % 16)) (digit (n % 16))

-- ---- formats

-- a hole: d is a number in decimal, n the row of a table that its hexadecimal digits name, 2, 6 and 8 so many of these
abbrev pub hole : List ℕ → ℕ → ℕ → List ℕ
hole table kind n = cond (eqb kind 0x64) (decimal n) (cond (eqb kind 0x6E) (hex_row table n) (hex (kind % 16) n))

-- a format with numbers in its holes, each a percent sign and a kind; what stands behind the last number is put as it is
unfoldable pub formatted : List ℕ → List ℕ → List ℕ → List ℕ
formatted table format [] = format
formatted table [] (n ∷ ns) = []
formatted table (c ∷ []) (n ∷ ns) = c ∷ []
formatted table (c ∷ k ∷ cs) (n ∷ ns) =
    cond (eqb c 0x25) (hole table k n ++ formatted table cs ns) (c ∷ formatted table (k ∷ cs) (n ∷ ns))
