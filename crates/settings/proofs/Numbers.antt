-- Sets of numbers: the lowest taken off, one put in, the low part; and the settings by their numbers.
use Prim.Native.Nat.{ℕ, zero, suc, ◌+◌, ◌-◌, ◌*◌, ◌/◌, ◌%◌, ◌^◌, ◌<◌}
use native.Mathlib.Nat.{one-mul, pow-suc, add-zero, add-suc}
use native.Mathlib.Numerals.{add-one}
use native.Mathlib.Omega.{arith}
use mathlib.Core.Path.{◌≡◌, refl, ap, sym, ◌∙◌, subst}
use mathlib.Core.Bool.{Bool, true, false, cond, not, ◌&&◌, ◌||◌}
use mathlib.Core.Logic.{inl, inr}
use mathlib.Core.List.{List, [], ◌∷◌, ◌++◌}
use mathlib.Core.Option.{Option, none, some}
use lib.Bits.{bit_and, bit_or, and_step, and_self, or_step, or_shr, or_zero_r}
use lib.Count.{count_trailing_zeros, under}
use lib.Dec.{eqb, ltb}
use lib.Pow.{shl_exact, field, mod-mod-pow, shr-shr}
use lib.ListN.{length}
use borrow.Author.Tests.{eqb-true, eqb-false, ltb-true}
use Rattle.rules.specs.Table.{Row, table, row_of, is_setting, settings}
use Rattle.theory.proofs.Bools.{and_left, and_right, implied}
use Rattle.theory.proofs.Rows.{Setting, AllSettings, settings-all, every_row, found_passes, found-step}
use Rattle.settings.specs.Numbers.{odd, holds, numbers, number_of}

-- ---- sets

pub numbers_none : (n first : ℕ) → numbers n first 0 ≡ []
unfolding numbers
numbers_none zero first = refl
numbers_none (suc n) first = numbers_none n (suc first)

-- x & (x - 1) takes off the lowest number, which is the count of trailing zeros
pub lowest_off : (n first x : ℕ) → x < 2 ^ n → (x ≡ 0 → ⊥) → numbers n first x ≡ (first + count_trailing_zeros n x) ∷ numbers n first (bit_and x (x - 1))
unfolding numbers count_trailing_zeros
lowest_off zero first x h ne = absurd (ne (omega arith))
lowest_off (suc n) first x h ne = by_lowest (lowest_off n (suc first) (x / 2)) (odd x) refl
  where
    h' : x < 2 ^ n * 2
    h' = rw pow-suc at h

    y : ℕ
    y = bit_and x (x - 1)

    by_lowest : (x / 2 < 2 ^ n → (x / 2 ≡ 0 → ⊥) → numbers n (suc first) (x / 2) ≡ (suc first + count_trailing_zeros n (x / 2)) ∷ numbers n (suc first) (bit_and (x / 2) (x / 2 - 1)))
        → (b : Bool) → odd x ≡ b
        → cond b (first ∷ numbers n (suc first) (x / 2)) (numbers n (suc first) (x / 2))
        ≡ (first + under (x % 2) (count_trailing_zeros n (x / 2))) ∷ cond (odd y) (first ∷ numbers n (suc first) (y / 2)) (numbers n (suc first) (y / 2))
    by_lowest ih true e =
        let o : x % 2 ≡ 1 = eqb-true (x % 2) 1 e in
        let p : (x - 1) / 2 ≡ x / 2 = omega arith in
        let q : (x - 1) % 2 ≡ 0 = omega arith in
        let s : y ≡ x / 2 * 2 = and_step x (x - 1) ∙ rw (p, q, o, and_self (x / 2)) (omega arith) in
        let z : y % 2 ≡ 0 = omega arith in
        let d : y / 2 ≡ x / 2 = omega arith in
        let w : first ≡ first + 0 = omega arith in
        rw (o, z, d) (ap (λ (k : ℕ). k ∷ numbers n (suc first) (x / 2)) w)
    by_lowest ih false e =
        let o : x % 2 ≡ 0 = let f = eqb-false (x % 2) 1 e in omega arith in
        let k = h' in
        let p : (x - 1) / 2 ≡ x / 2 - 1 = omega arith in
        let s : y ≡ bit_and (x / 2) (x / 2 - 1) * 2 = and_step x (x - 1) ∙ rw (p, o) (omega arith) in
        let z : y % 2 ≡ 0 = omega arith in
        let d : y / 2 ≡ bit_and (x / 2) (x / 2 - 1) = omega arith in
        let a : suc first + count_trailing_zeros n (x / 2) ≡ first + suc (count_trailing_zeros n (x / 2)) = omega arith in
        rw (o, z, d) (ih (omega arith) (λ w. ne (omega arith)) ∙ rw a)

-- the low n bits
pub numbers_low : (m n first x : ℕ) → numbers (m + n) first (x % 2 ^ n) ≡ numbers n first x
unfolding numbers
numbers_low m zero first x = let z : x % 1 ≡ 0 = omega arith in rw (add-zero m, z) (numbers_none m first)
numbers_low m (suc n) first x =
    let o : x % 2 ^ suc n % 2 ≡ x % 2 = rw add-one at (mod-mod-pow x n 1) in
    let d : x % 2 ^ suc n / 2 ≡ x / 2 % 2 ^ n = rw add-one at (field x n 1) in
    rw (add-suc m n, o, d, numbers_low m n (suc first) (x / 2))

-- a number put in
half_bit : (k : ℕ) → 2 ^ suc k / 2 ≡ 2 ^ k
half_bit k = omega (arith, pow-suc 2 k)

pub holds-put : (x k : ℕ) → holds (bit_or x (2 ^ k)) k ≡ true
holds-put x zero =
    let o : bit_or x 1 % 2 ≡ 1 = omega (arith, or_step x 1) in
    rw o
holds-put x (suc k) = ap (λ (y : ℕ). holds y k) (or_shr x (2 ^ suc k) 1 ∙ ap (bit_or (x / 2)) (half_bit k)) ∙ holds-put (x / 2) k

pub holds_other : (x k j : ℕ) → (j ≡ k → ⊥) → holds (bit_or x (2 ^ k)) j ≡ holds x j
holds_other x zero zero ne = absurd (ne refl)
holds_other x zero (suc j) ne = ap (λ (y : ℕ). holds y j) (or_shr x 1 1 ∙ or_zero_r (x / 2))
holds_other x (suc k) zero ne =
    let e : bit_or x (2 ^ suc k) % 2 ≡ x % 2 = omega (arith, or_step x (2 ^ suc k), pow-suc 2 k) in
    rw e
holds_other x (suc k) (suc j) ne =
    ap (λ (y : ℕ). holds y j) (or_shr x (2 ^ suc k) 1 ∙ ap (bit_or (x / 2)) (half_bit k)) ∙ holds_other (x / 2) k j (λ e. ne (ap suc e))

pub holds_none : (k : ℕ) → holds 0 k ≡ false
holds_none zero = refl
holds_none (suc k) = holds_none k

-- the bit as it is shifted
pub bit_of : (k : ℕ) → k < 64 → 1 * 2 ^ k % 2 ^ 64 ≡ 2 ^ k
bit_of k h = shl_exact 1 k 64 (omega arith) (omega arith) ∙ one-mul (2 ^ k)

-- a number's bit
pub holds_at : (x k : ℕ) → holds x k ≡ odd (x / 2 ^ k)
holds_at x zero = let e : x ≡ x / 1 = omega arith in ap odd e
holds_at x (suc k) =
    let n : 1 + k ≡ suc k = omega arith in
    holds_at (x / 2) k ∙ ap odd (shr-shr x 1 k ∙ ap (λ (j : ℕ). x / 2 ^ j) n)

-- ---- the settings by their numbers

abbrev numbered : ℕ → List Row → Option Row
numbered k [] = none
numbered k (r ∷ rs) = cond (eqb (number_of r.id) k) (some r) (numbered k rs)

unfoldable pub setting_of : ℕ → Option Row
setting_of k = numbered k settings

abbrev pub row_list : Option Row → List Row
row_list none = []
row_list (some r) = r ∷ []

-- those of n numbers
abbrev pub settings_from : ℕ → ℕ → List Row
settings_from zero k = []
settings_from (suc n) k = row_list (setting_of k) ++ settings_from n (suc k)

pub settings_by_number : settings ≡ settings_from 16 0 ++ settings_from 64 16
unfolding setting_of settings table
settings_by_number = refl

pub record Numbered (k : ℕ) (r : Row) : Type 0 where
  pub setting : Setting r
  pub number : number_of r.id ≡ k
  pub small : k < 64
  pub more : length r.more ≡ cond (ltb k 16) 0 3

number_ok : Row → Bool
number_ok r = ltb (number_of r.id) 64 && eqb (length r.more) (cond (ltb (number_of r.id) 16) 0 3)

numbered_in : (k : ℕ) (r : Row) (rs : List Row) → AllSettings rs → every_row number_ok rs ≡ true → numbered k rs ≡ some r → Numbered k r
unfolding number_ok
numbered_in k r [] a t e = let z : ◌≡◌ {A = ℕ} 0 1 = cc in absurd (omega arith)
numbered_in k r (s ∷ rs) a t e =
    elim (found-step (eqb (number_of s.id) k) s r (numbered k rs) e) [
      | inl h ↦
          let is : s ≡ r = h.1 in
          let n : number_of s.id ≡ k = eqb-true _ _ h.0 in
          let ok : number_ok s ≡ true = and_left (number_ok s) _ t in
          subst (Numbered k) is (record {
            setting = a.0;
            number = n;
            small = omega (arith, ltb-true (number_of s.id) 64 (and_left (ltb (number_of s.id) 64) _ ok));
            more = eqb-true _ _ (and_right (ltb (number_of s.id) 64) _ ok) ∙ ap (λ (j : ℕ). cond (ltb j 16) 0 3) n;
          })
      | inr h ↦ numbered_in k r rs a.1 (and_right (number_ok s) _ t) h
    ]

pub setting_of_lem : (k : ℕ) (r : Row) → setting_of k ≡ some r → Numbered k r
unfolding setting_of number_ok settings table
setting_of_lem k r e = numbered_in k r settings settings-all refl e

has_id : ℕ → Option Row → Bool
has_id i none = false
has_id i (some s) = eqb s.id i

listed : Row → Bool
listed r = not (is_setting r.kind) || has_id r.id (setting_of (number_of r.id))

pub number_of_lem : (r : Row) → Setting r → setting_of (number_of r.id) ≡ some r
unfolding listed has_id setting_of settings row_of table
number_of_lem r s =
    by_found (setting_of (number_of r.id)) refl
    (implied (is_setting r.kind) _ (found_passes listed table r.id r refl s.found) (ap is_setting s.kind))
  where
    by_found : (o : Option Row) → setting_of (number_of r.id) ≡ o → has_id r.id o ≡ true → o ≡ some r
    by_found none e h = cc
    by_found (some t) e h =
        let p : some t ≡ some r = sym (setting_of_lem (number_of r.id) t e).setting.found ∙ ap row_of (eqb-true t.id r.id h) ∙ s.found in
        p
