-- Bytes and numbers as text (document 01, "The listing").
use Rattle.std.specs.Prelude.{ℕ, zero, suc, ◌+◌, ◌/◌, ◌%◌, cond, List, [], ◌∷◌, ◌++◌, ltb}
use Prim.Native.Char.{code}
use Prim.Native.String.{String, [] as none, ◌∷◌ as ◌then◌}

-- the bytes of a text in ASCII
abbrev pub ascii : String → List ℕ
ascii none = []
ascii (c then s) = code c ∷ ascii s

-- a digit below 16, in "lower case"
abbrev pub digit : ℕ → ℕ
digit d = cond (ltb d 10) (0x30 + d) (0x57 + d)

-- the last k hexadecimal digits of a number
unfoldable pub hex : ℕ → ℕ → List ℕ
hex zero n = []
hex (suc k) n = hex k (n / 16) ++ (digit (n % 16) ∷ [])

-- the decimal digits of a number that has at most k
unfoldable pub decimal_of : ℕ → ℕ → List ℕ
decimal_of zero n = []
decimal_of (suc k) n = cond (ltb n 10) (digit n ∷ []) (decimal_of k (n / 10) ++ (digit (n % 10) ∷ []))

-- a number in decimal; below 2^64 it has at most 20 digits
unfoldable pub decimal : ℕ → List ℕ
unfolding decimal_of
decimal n = decimal_of 20 n
