-- The lowest undefined bit is what its name says, and of a first word it is its header's.
use Prim.Native.Nat.{ℕ, zero, suc, ◌+◌, ◌-◌, ◌*◌, ◌/◌, ◌%◌, ◌^◌, ◌<◌, ◌≤◌}
use native.Mathlib.Nat.{div-one, div-eq_of_lt, pow-suc}
use native.Mathlib.Omega.{arith}
use mathlib.Core.Path.{◌≡◌, refl, ap, sym, ◌∙◌}
use mathlib.Core.Logic.{inl, inr}
use mathlib.Core.Bool.{Bool, true, false, cond}
use lib.Dec.{leb, ltb}
use lib.Pow.{pow-add, pow_pos, shr-shr, field, mod-mod-pow, high, low}
use borrow.Author.Tests.{le-leb, leb-true, leb-false, ltb-true, ltb-false}
use Rattle.rules.specs.Word.{bits, id_of, header_of, first_word, lowest, lowest_undefined, undefined, UndefinedAt, LowestUndefinedAt, AllDefined, LowestOrNone}

-- ---- any word and mask

bit_zero : (w : ℕ) → bits w 0 1 ≡ w % 2
bit_zero w = rw div-one

bit_of_half : (w k : ℕ) → bits w (suc k) 1 ≡ bits (w / 2) k 1
bit_of_half w k =
    let s : suc k ≡ 1 + k = omega arith in
    ap (λ (x : ℕ). w / 2 ^ x % 2 ^ 1) s ∙ ap (λ (x : ℕ). x % 2 ^ 1) (sym (shr-shr w 1 k))

-- among the n low bits
record Found (n w m r : ℕ) : Type 0 where
  undefined_here : r < n → UndefinedAt w m r
  none_below : (k : ℕ) → k < r → UndefinedAt w m k → ⊥
  most : r ≤ n

found : (n w m : ℕ) → Found n w m (lowest n w m)
unfolding lowest
found zero w m = record { undefined_here = λ h. absurd (omega arith); none_below = λ k h u. omega arith; most = omega arith }
found (suc n) w m = go (found n (w / 2) (m / 2)) (leb (w % 2) (m % 2)) refl
  where
    go : Found n (w / 2) (m / 2) (lowest n (w / 2) (m / 2)) → (b : Bool) → leb (w % 2) (m % 2) ≡ b
        → Found (suc n) w m (cond b (suc (lowest n (w / 2) (m / 2))) zero)
    go ih true e =
        let k : ℕ = lowest n (w / 2) (m / 2) in
        record {
          undefined_here = λ h. let u = ih.undefined_here (omega arith) in (bit_of_half w k ∙ u.0, bit_of_half m k ∙ u.1);
          none_below = lower ih (leb-true (w % 2) (m % 2) e);
          most = omega (arith, ih.most);
        }
      where
        lower : Found n (w / 2) (m / 2) (lowest n (w / 2) (m / 2)) → w % 2 ≤ m % 2 → (k : ℕ) → k < suc (lowest n (w / 2) (m / 2)) → UndefinedAt w m k → ⊥
        lower ih l zero h u = omega (arith, bit_zero w, bit_zero m, u.0, u.1)
        lower ih l (suc k) h u = ih.none_below k (omega arith) (sym (bit_of_half w k) ∙ u.0, sym (bit_of_half m k) ∙ u.1)
    go ih false e =
        let l = leb-false (w % 2) (m % 2) e in
        record { undefined_here = λ h. (bit_zero w ∙ omega arith, bit_zero m ∙ omega arith); none_below = λ k h u. omega arith; most = omega arith }

module _ (w m : ℕ) where
  -- the test finds a bit, and it is the lowest
  pub undefined-lowest : undefined w m ≡ true → LowestUndefinedAt w m (lowest_undefined w m)
  unfolding undefined
  undefined-lowest e =
      let h = ltb-true (lowest_undefined w m) 32 e in
      let f = found 32 w m in
      record { in_word = h; undefined_here = f.undefined_here h; none_below = f.none_below }

  -- or it finds none
  pub all_defined : undefined w m ≡ false → AllDefined w m
  unfolding undefined
  all_defined e k h u = let n = ltb-false (lowest_undefined w m) 32 e in (found 32 w m).none_below k (omega arith) u

  -- "the lowest undefined bit set, or 32 exactly when there is none"
  pub lowest_or_none : LowestOrNone w m (lowest_undefined w m)
  unfolding undefined
  lowest_or_none =
      (elim (undefined w m) as (λ t. undefined w m ≡ t → LowestOrNone w m (lowest_undefined w m)) [
        | true ↦ λ e. let l = undefined-lowest e in
            record { lowest_or_32 = inl l; exactly = (λ q. absurd (omega (arith, q, l.in_word)), λ n. absurd (n _ l.in_word l.undefined_here)) }
        | false ↦ λ e. let q : lowest_undefined w m ≡ 32 = omega (arith, ltb-false (lowest_undefined w m) 32 e, (found 32 w m).most) in
            record { lowest_or_32 = inr q; exactly = (λ z. all_defined e, λ n. q) }
      ]) refl

-- every bit is defined under the mask of all bits
ones : (n w : ℕ) → lowest n w (2 ^ n - 1) ≡ n
unfolding lowest
ones zero w = refl
ones (suc n) w =
    let p = pow_pos n in
    let q = pow-suc 2 n in
    let half : (2 ^ suc n - 1) / 2 ≡ 2 ^ n - 1 = omega arith in
    let odd : (2 ^ suc n - 1) % 2 ≡ 1 = omega arith in
    rw (half, odd, le-leb (w % 2) 1 (omega arith)) (ap suc (ones n (w / 2)))

pub all_ones_defined : (w : ℕ) → undefined w 0xFFFFFFFF ≡ false
unfolding undefined
all_ones_defined w = ap (λ (k : ℕ). ltb k 32) (ones 32 w)

-- ---- a first word

-- a bit of the header is the word's
header_bit : (w k : ℕ) → k < 24 → bits (header_of w) k 1 ≡ bits w k 1
header_bit w k h =
    let s : (23 - k + 1) + k ≡ 24 = omega arith in
    ap (λ (n : ℕ). w % 2 ^ n / 2 ^ k % 2 ^ 1) (sym s) ∙ ap (λ (x : ℕ). x % 2 ^ 1) (field w (23 - k + 1) k) ∙ mod-mod-pow (w / 2 ^ k) (23 - k) 1

-- it has no other
header_none : (w k : ℕ) → 24 ≤ k → bits (header_of w) k 1 ≡ 0
header_none w k h =
    let s : 24 + (k - 24) ≡ k = omega arith in
    let p : 2 ^ k ≡ 2 ^ 24 * 2 ^ (k - 24) = ap (λ (n : ℕ). 2 ^ n) (sym s) ∙ pow-add 2 24 (k - 24) in
    ap (λ (x : ℕ). x % 2 ^ 1) (div-eq_of_lt (omega (arith, p, pow_pos (k - 24))))

-- a bit of the id
id_bit : (w k : ℕ) → 24 ≤ k → bits (id_of w) (k - 24) 1 ≡ bits w k 1
id_bit w k h =
    let s : 24 + (k - 24) ≡ k = omega arith in
    ap (λ (x : ℕ). x % 2 ^ 1) (shr-shr w 24 (k - 24)) ∙ ap (λ (n : ℕ). w / 2 ^ n % 2 ^ 1) s

-- in the header or in the id
by_place : {A : Type 0} (k : ℕ) → (k < 24 → A) → (24 ≤ k → A) → A
by_place {A} k below above =
    (elim (ltb k 24) as (λ t. ltb k 24 ≡ t → A) [
      | true ↦ λ e. below (ltb-true k 24 e)
      | false ↦ λ e. above (ltb-false k 24 e)
    ]) refl

-- its id's bits count as defined
module _ (w m : ℕ) (small : m < 2 ^ 24) where
  mask_bit : (k : ℕ) → k < 24 → bits m k 1 ≡ bits (first_word 0xFF m) k 1
  mask_bit k h = ap (λ (x : ℕ). bits x k 1) (sym (low 0xFF 24 small)) ∙ header_bit (first_word 0xFF m) k h

  in_header : (k : ℕ) → k < 24 → UndefinedAt w (first_word 0xFF m) k → UndefinedAt (header_of w) m k
  in_header k h u = (header_bit w k h ∙ u.0, mask_bit k h ∙ u.1)

  in_id : (k : ℕ) → 24 ≤ k → k < 32 → UndefinedAt w (first_word 0xFF m) k → ⊥
  in_id k h g u =
      let mask : bits 0xFF (k - 24) 1 ≡ 0 = ap (λ (x : ℕ). bits x (k - 24) 1) (sym (high 0xFF 24 small)) ∙ id_bit (first_word 0xFF m) k h ∙ u.1 in
      (found 8 (id_of w) 0xFF).none_below (k - 24) (omega (arith, ones 8 (id_of w))) (id_bit w k h ∙ u.0, mask)

  pub first-lowest : (k : ℕ) → LowestUndefinedAt (header_of w) m k → LowestUndefinedAt w (first_word 0xFF m) k
  first-lowest k l = by_place k
      (λ h. record {
        in_word = l.in_word;
        undefined_here = (sym (header_bit w k h) ∙ l.undefined_here.0, sym (mask_bit k h) ∙ l.undefined_here.1);
        none_below = λ j b u. l.none_below j b (in_header j (omega arith) u);
      })
      (λ h. absurd (omega (arith, l.undefined_here.0, header_none w k h)))

  pub first_defined : undefined (header_of w) m ≡ false → AllDefined w (first_word 0xFF m)
  first_defined e k h u = by_place k (λ b. all_defined (header_of w) m e k h (in_header k b u)) (λ a. in_id k a h u)
