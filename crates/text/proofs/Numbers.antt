-- The digits of numbers, one by one, and how many there are.
use Prim.Native.Nat.{ℕ, zero, suc, ◌-◌, ◌/◌, ◌%◌, ◌^◌, ◌≤◌, ◌<◌}
use native.Mathlib.Omega.{arith}
use mathlib.Core.Path.{◌≡◌, refl, ◌∙◌}
use mathlib.Core.List.{List, [], ◌∷◌, ◌++◌}
use mathlib.Core.Bool.{Bool, true, false, cond}
use lib.Dec.{ltb}
use borrow.Author.Tests.{lt-ltb, le-ltb}
use lib.ListN.{length, length-append}
use Rattle.std.specs.Fmt.{decimal as std_decimal}
use Rattle.std.proofs.lemmas.Fmt.{AppendsLastDigit, decimal_from_appends, decimal_step, length-decimal-le}
use Rattle.text.specs.Text.{digit, hex, decimal_of, decimal}

pub hex_none : (k n : ℕ) → k ≡ 0 → hex k n ≡ []
unfolding hex
hex_none k n e = rw e

pub hex-more : (k n : ℕ) → (k ≡ 0 → ⊥) → hex k n ≡ hex (k - 1) (n / 16) ++ (digit (n % 16) ∷ [])
unfolding hex
hex-more zero n h = absurd (h refl)
hex-more (suc k) n h = let e : suc k - 1 ≡ k = omega arith in rw e

module _ (k n : ℕ) where
  of_one : n < 10 → decimal_of (suc k) n ≡ digit n ∷ []
  unfolding decimal_of
  of_one h = rw (lt-ltb n 10 h)

  of_more : 10 ≤ n → decimal_of (suc k) n ≡ decimal_of k (n / 10) ++ (digit (n % 10) ∷ [])
  unfolding decimal_of
  of_more h = rw (le-ltb n 10 h)

-- as std has it
of_std : AppendsLastDigit decimal_of
of_std =
    record {
      one = λ k n h. of_one k n h ∙ rw (lt-ltb n 10 h);
      more = λ k n h. of_more k n h ∙ rw (lt-ltb (n % 10) 10 (omega arith));
    }

decimal-std : (n : ℕ) → n < 2 ^ 64 → decimal n ≡ std_decimal n
unfolding decimal
decimal-std n h = decimal_from_appends decimal_of of_std 20 n h (length-decimal-le 20 n (omega arith) (omega arith) h)

pub decimal-one : (n : ℕ) → n < 10 → decimal n ≡ digit n ∷ []
unfolding decimal
decimal-one n h = of_one 19 n h

pub decimal-more : (n : ℕ) → 10 ≤ n → n < 2 ^ 64 → decimal n ≡ decimal (n / 10) ++ (digit (n % 10) ∷ [])
decimal-more n h l =
    decimal-std n l ∙ decimal_step n h l ∙ rw (decimal-std (n / 10) (omega arith), lt-ltb (n % 10) 10 (omega arith))

-- ---- how many

pub length-cond : (b : Bool) (p q : List ℕ) (m : ℕ) → length p ≤ m → length q ≤ m → length (cond b p q) ≤ m
length-cond true p q m h k = h
length-cond false p q m h k = k

of_length : (k n : ℕ) → length (decimal_of k n) ≤ k
unfolding decimal_of
of_length zero n = omega arith
of_length (suc k) n =
    length-cond (ltb n 10) (digit n ∷ []) (decimal_of k (n / 10) ++ (digit (n % 10) ∷ [])) (suc k) (omega arith)
    (omega (arith, of_length k (n / 10), length-append (decimal_of k (n / 10)) (digit (n % 10) ∷ [])))

pub decimal-length : (n : ℕ) → length (decimal n) ≤ 20
unfolding decimal
decimal-length n = of_length 20 n

-- a small number has few digits
pub decimal-short : (k n : ℕ) → n < 10 ^ suc k → n < 2 ^ 64 → length (decimal n) ≤ suc k
decimal-short k n h l = rw (decimal-std n l) (length-decimal-le (suc k) n (omega arith) h l)

pub hex-length : (k n : ℕ) → length (hex k n) ≡ k
unfolding hex
hex-length zero n = refl
hex-length (suc k) n = omega (arith, hex-length k (n / 16), length-append (hex k (n / 16)) (digit (n % 16) ∷ []))
