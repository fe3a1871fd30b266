-- Words and their bytes.
use Prim.Native.Nat.{ℕ, ◌+◌, ◌*◌, ◌/◌, ◌%◌, ◌^◌, ◌<◌}
use native.Mathlib.Omega.{arith}
use native.Mathlib.Nat.{div-div-eq-div-mul}
use mathlib.Core.Path.{◌≡◌}
use mathlib.Core.List.{List, [], ◌∷◌}
use Rattle.rules.specs.Word.{little_endian, of_bytes}

-- each is a word of 32 bits
abbrev pub Words : List ℕ → Type 0
Words [] = Unit {0}
Words (w ∷ ws) = (w < 2 ^ 32) × Words ws

by_digits : (w r₀ q₁ r₁ q₂ r₂ q₃ r₃ : ℕ) → w ≡ r₀ + q₁ * 0x100 → q₁ ≡ r₁ + q₂ * 0x100 → q₂ ≡ r₂ + q₃ * 0x100 → q₃ ≡ r₃ → little_endian r₀ r₁ r₂ r₃ ≡ w
by_digits w r₀ q₁ r₁ q₂ r₂ q₃ r₃ a b c d = omega (arith, a, b, c, d)

low : (n : ℕ) → n ≡ n % 0x100 + n / 0x100 * 0x100
low n = omega arith

high : (n : ℕ) → n < 2 ^ 32 → n / 0x1000000 ≡ n / 0x1000000 % 0x100
high n h = omega (arith, h)

-- the word of a word's bytes
pub word_again : (w : ℕ) → w < 2 ^ 32 → of_bytes little_endian w ≡ w
word_again w h =
    by_digits w (w % 0x100) (w / 0x100) (w / 0x100 % 0x100) (w / 0x10000) (w / 0x10000 % 0x100) (w / 0x1000000) (w / 0x1000000 % 0x100) (low w)
    (rw (← div-div-eq-div-mul w 0x100 0x100) (low (w / 0x100))) (rw (← div-div-eq-div-mul w 0x10000 0x100) (low (w / 0x10000))) (high w h)

-- the bytes of a word of bytes
bytes_again : (f : ℕ → ℕ → ℕ → ℕ → ℕ) (a b c d : ℕ) → a < 0x100 → b < 0x100 → c < 0x100 → d < 0x100 → of_bytes f (little_endian a b c d) ≡ f a b c d
bytes_again f a b c d p q r s =
    let w : ℕ = little_endian a b c d in
    let are : (w % 0x100 ≡ a) × (w / 0x100 % 0x100 ≡ b) × (w / 0x10000 % 0x100 ≡ c) × (w / 0x1000000 % 0x100 ≡ d) = (omega arith, omega arith, omega arith, omega arith) in
    rw (are.0, are.1, are.2, are.3)

byte : (n : ℕ) → n % 0x100 < 0x100
byte n = omega arith

pub low_bytes : (f : ℕ → ℕ → ℕ → ℕ → ℕ) (a b c d : ℕ)
    → of_bytes f (little_endian (a % 0x100) (b % 0x100) (c % 0x100) (d % 0x100)) ≡ f (a % 0x100) (b % 0x100) (c % 0x100) (d % 0x100)
low_bytes f a b c d = bytes_again f (a % 0x100) (b % 0x100) (c % 0x100) (d % 0x100) (byte a) (byte b) (byte c) (byte d)
