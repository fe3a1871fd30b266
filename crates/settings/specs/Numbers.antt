-- Sets of numbers as the bits of a word, and the numbers of the settings.
use Rattle.std.specs.Prelude.{ℕ, zero, suc, ◌+◌, ◌/◌, ◌%◌, Bool, cond, List, [], ◌∷◌, eqb}

abbrev pub odd : ℕ → Bool
odd x = eqb (x % 2) 1

-- a number is in a set
abbrev pub holds : ℕ → ℕ → Bool
holds x zero = odd x
holds x (suc k) = holds (x / 2) k

-- the numbers in a set of n bits, rising, where its lowest bit stands for the number `first`
unfoldable pub numbers : ℕ → ℕ → ℕ → List ℕ
numbers zero first x = []
numbers (suc n) first x = let later = numbers n (suc first) (x / 2) in cond (odd x) (first ∷ later) later

-- the number of a setting: below 64, rising with the id, and below 16 for those of one word
abbrev pub number_of : ℕ → ℕ
number_of id = id / 4 + id % 2
