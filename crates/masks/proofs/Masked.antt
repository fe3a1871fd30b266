-- The bits of a word under the complement of a mask: the count of trailing zeros is the lowest undefined bit.
use mathlib.Core.Bool.{Bool, true, false, cond}
use mathlib.Core.Path.{◌≡◌, ◌∙◌, ap, sym, refl}
use Prim.Native.Nat.{ℕ, zero, suc, ◌+◌, ◌-◌, ◌*◌, ◌/◌, ◌%◌, ◌^◌, ◌<◌, min}
use native.Mathlib.Nat.{pow-suc}
use native.Mathlib.Omega.{arith}
use lib.Bits.{bit_and, and_step, and_le_l}
use lib.Dec.{leb}
use lib.Count.{count_trailing_zeros, under, trailing_of_zero}
use borrow.Author.Tests.{leb-true, leb-false}
use Rattle.rules.specs.Word.{lowest}

half : (p m : ℕ) → m < p * 2 → (p * 2 - 1 - m) / 2 ≡ p - 1 - m / 2
half p m h = omega arith

odd : (p m : ℕ) → m < p * 2 → (p * 2 - 1 - m) % 2 ≡ 1 - m % 2
odd p m h = omega arith

-- the complement's half and lowest bit, in the and of a word with it
step : (k w m : ℕ) → m < 2 ^ suc k
    → bit_and w (2 ^ suc k - 1 - m) ≡ bit_and (w / 2) (2 ^ k - 1 - m / 2) * 2 + min (w % 2) (1 - m % 2)
step k w m h =
    let h' : m < 2 ^ k * 2 = rw pow-suc at h in
    rw (pow-suc 2 k, and_step w (2 ^ k * 2 - 1 - m), half (2 ^ k) m h', odd (2 ^ k) m h')

pub trailing : (k w m : ℕ) → m < 2 ^ k → count_trailing_zeros k (bit_and w (2 ^ k - 1 - m)) ≡ lowest k w m
unfolding lowest count_trailing_zeros
trailing zero w m h = refl
trailing (suc k) w m h = go (trailing k (w / 2) (m / 2)) (leb (w % 2) (m % 2)) refl
  where
    n : ℕ
    n = bit_and w (2 ^ suc k - 1 - m)

    h' : m < 2 ^ k * 2
    h' = rw pow-suc at h

    go : (m / 2 < 2 ^ k → count_trailing_zeros k (bit_and (w / 2) (2 ^ k - 1 - m / 2)) ≡ lowest k (w / 2) (m / 2))
        → (b : Bool) → leb (w % 2) (m % 2) ≡ b → under (n % 2) (count_trailing_zeros k (n / 2)) ≡ cond b (suc (lowest k (w / 2) (m / 2))) zero
    go ih true e =
        let l = leb-true (w % 2) (m % 2) e in
        let s = step k w m h in
        let q = h' in
        let z : n % 2 ≡ 0 = omega arith in
        let d : n / 2 ≡ bit_and (w / 2) (2 ^ k - 1 - m / 2) = omega arith in
        rw (z, d) (ap suc (ih (omega arith)))
    go ih false e =
        let l = leb-false (w % 2) (m % 2) e in
        let s = step k w m h in
        let z : n % 2 ≡ 1 = omega arith in
        rw z

-- none is set
pub masked : (k w m : ℕ) → m < 2 ^ k → bit_and w (2 ^ k - 1 - m) ≡ 0 → lowest k w m ≡ k
masked k w m h e = sym (trailing k w m h) ∙ ap (count_trailing_zeros k) e ∙ trailing_of_zero k

-- a number that is not 0 has a bit
some_bit : (k n : ℕ) → n < 2 ^ k → (n ≡ 0 → ⊥) → count_trailing_zeros k n < k
unfolding count_trailing_zeros
some_bit zero n h ne = absurd (ne (omega arith))
some_bit (suc k) n h ne = let h' : n < 2 ^ k * 2 = rw pow-suc at h in go h' (some_bit k (n / 2)) (n % 2) refl
  where
    go : n < 2 ^ k * 2 → (n / 2 < 2 ^ k → (n / 2 ≡ 0 → ⊥) → count_trailing_zeros k (n / 2) < k) → (d : ℕ) → n % 2 ≡ d → under d (count_trailing_zeros k (n / 2)) < suc k
    go h' ih zero e = let i = ih (omega arith) (λ z. ne (omega arith)) in omega arith
    go h' ih (suc d) e = omega arith

pub unmasked : (k w m : ℕ) → m < 2 ^ k → w < 2 ^ k → (bit_and w (2 ^ k - 1 - m) ≡ 0 → ⊥) → lowest k w m < k
unmasked k w m h g ne = rw (← trailing k w m h) (some_bit k (bit_and w (2 ^ k - 1 - m)) (omega (arith, and_le_l w (2 ^ k - 1 - m))) ne)
