-- The words of some bytes (document 01, "The listing"), and the bytes of some words.
use Rattle.std.specs.Prelude.{ℕ, ◌/◌, ◌%◌, List, [], ◌∷◌, ◌++◌}
use Rattle.rules.specs.Word.{little_endian}

-- what is made of each chunk of four numbers, one behind the other; fewer at the end are left out
abbrev pub chunks : (ℕ → ℕ → ℕ → ℕ → List ℕ) → List ℕ → List ℕ
chunks f [] = []
chunks f (a ∷ []) = []
chunks f (a ∷ b ∷ []) = []
chunks f (a ∷ b ∷ c ∷ []) = []
chunks f (a ∷ b ∷ c ∷ d ∷ rest) = f a b c d ++ chunks f rest

-- "The program reads standard input as little-endian words".
unfoldable pub words_of : List ℕ → List ℕ
words_of input = chunks (λ a b c d. little_endian a b c d ∷ []) input

-- a word's bytes, low first
abbrev pub word_bytes : ℕ → List ℕ
word_bytes w = w % 0x100 ∷ w / 0x100 % 0x100 ∷ w / 0x10000 % 0x100 ∷ w / 0x1000000 % 0x100 ∷ []

unfoldable pub bytes_of : List ℕ → List ℕ
bytes_of [] = []
bytes_of (w ∷ ws) = word_bytes w ++ bytes_of ws
