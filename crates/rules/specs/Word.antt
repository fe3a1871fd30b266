-- A word of a list: its fields and bytes (document 01, "Words and sizes" and "The listing"), and its bits under a mask
-- (document 02, Ticket 6).
use Rattle.std.specs.Prelude.{ℕ, zero, suc, ◌+◌, ◌*◌, ◌/◌, ◌%◌, ◌^◌, ◌<◌, ◌≡◌, ◌⊎◌, ◌↔◌, Bool, cond, leb, ltb}

-- the n bits of a word from bit `low` up
abbrev pub bits : ℕ → ℕ → ℕ → ℕ
bits w low n = w / 2 ^ low % 2 ^ n

-- "A command's first word holds its id in bits 31..24 and a 24-bit header below" (001, 2.1).
abbrev pub id_of : ℕ → ℕ
id_of w = w / 2 ^ 24

abbrev pub header_of : ℕ → ℕ
header_of w = w % 2 ^ 24

abbrev pub first_word : ℕ → ℕ → ℕ
first_word id header = id * 2 ^ 24 + header

-- "little-endian words": the word of four bytes, low first
abbrev pub little_endian : ℕ → ℕ → ℕ → ℕ → ℕ
little_endian a b c d = a + b * 0x100 + c * 0x10000 + d * 0x1000000

-- what is made of a word's four bytes, low first
abbrev pub of_bytes : (ℕ → ℕ → ℕ → ℕ → ℕ) → ℕ → ℕ
of_bytes f w = f (w % 0x100) (w / 0x100 % 0x100) (w / 0x10000 % 0x100) (w / 0x1000000 % 0x100)

-- the lowest of the n low bits that is set in the word and not in the mask, n where there is none
unfoldable pub lowest : ℕ → ℕ → ℕ → ℕ
lowest zero w mask = zero
lowest (suc n) w mask =
    let higher = suc (lowest n (w / 2) (mask / 2)) in
    cond (leb (w % 2) (mask % 2)) higher zero

-- "A bit outside its mask must be zero": the lowest undefined bit set, 32 where there is none.
abbrev pub lowest_undefined : ℕ → ℕ → ℕ
lowest_undefined w mask = lowest 32 w mask

unfoldable pub undefined : ℕ → ℕ → Bool
unfolding lowest
undefined w mask = ltb (lowest_undefined w mask) 32

-- bit k is set in the word and not in the mask
abbrev pub UndefinedAt : ℕ → ℕ → ℕ → Type 0
UndefinedAt w mask k = (bits w k 1 ≡ 1) × (bits mask k 1 ≡ 0)

-- bit k is the lowest such bit of a word
pub record LowestUndefinedAt (w mask k : ℕ) : Type 0 where
  pub in_word : k < 32
  pub undefined_here : UndefinedAt w mask k
  pub none_below : (j : ℕ) → j < k → UndefinedAt w mask j → ⊥

-- a word has no such bit
abbrev pub AllDefined : ℕ → ℕ → Type 0
AllDefined w mask = (k : ℕ) → k < 32 → UndefinedAt w mask k → ⊥

-- "for any word and mask: the lowest undefined bit set, or 32 exactly when there is none" (document 02, Ticket 6)
pub record LowestOrNone (w mask k : ℕ) : Type 0 where
  pub lowest_or_32 : LowestUndefinedAt w mask k ⊎ (k ≡ 32)
  pub exactly : (k ≡ 32) ↔ AllDefined w mask
