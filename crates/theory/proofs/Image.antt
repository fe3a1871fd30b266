-- Laws of the image: runs of words put and read.
use Prim.Native.Nat.{ℕ, zero, suc, ◌+◌, ◌≤◌, ◌<◌}
use native.Mathlib.Nat.{add-zero, zero-add}
use native.Mathlib.Omega.{arith}
use mathlib.Core.Path.{◌≡◌, refl, ap, ap₂, sym, ◌∙◌}
use mathlib.Core.Bool.{true, ◌&&◌}
use mathlib.Core.List.{List, [], ◌∷◌, ◌++◌}
use native.Mathlib.Decide.{ℕ_discrete}
use lib.Dec.{eqb}
use borrow.Author.Tests.{eqb-true, eq-eqb}
use native.Mathlib.Numerals.{add-one}
use lib.ListN.{length, get_or, set, take, length-set}
use lib.Seq.{sets, set_out, get_or-set_same, get_or-set_other, take-suc, length-take-le}
use Rattle.rules.specs.Form.{read, equal}
use Rattle.theory.proofs.Bools.{and_left, and_right}

pub sets_below : (l : List ℕ) (i : ℕ) (vs : List ℕ) (k : ℕ) → k < i → get_or (sets l i vs) k 0 ≡ get_or l k 0
sets_below l i [] k h = refl
sets_below l i (v ∷ vs) k h = sets_below (set l i v) (suc i) vs k (omega arith) ∙ get_or-set_other l i k v 0 (omega arith)

pub sets_above : (l : List ℕ) (i : ℕ) (vs : List ℕ) (k : ℕ) → i + length vs ≤ k → get_or (sets l i vs) k 0 ≡ get_or l k 0
sets_above l i [] k h = refl
sets_above l i (v ∷ vs) k h = sets_above (set l i v) (suc i) vs k (omega arith) ∙ get_or-set_other l i k v 0 (omega arith)

pub sets_read : (im f : List ℕ) (i n k : ℕ) → i + n ≤ length f → i ≤ k → k < i + n
    → get_or (sets f i (read im i n)) k 0 ≡ get_or im k 0
sets_read im f i zero k hf h₁ h₂ = absurd (omega arith)
sets_read im f i (suc n) k hf h₁ h₂ =
    elim (ℕ_discrete k i) [
      | yes e ↦ sets_below (set f i (get_or im i 0)) (suc i) (read im (suc i) n) k (omega arith)
          ∙ ap (λ (j : ℕ). get_or (set f i (get_or im i 0)) j 0) e ∙ get_or-set_same f i (get_or im i 0) 0 (omega arith) ∙ ap (λ (j : ℕ). get_or im j 0) (sym e)
      | no d ↦ sets_read im (set f i (get_or im i 0)) (suc i) n k (omega (arith, length-set f i (get_or im i 0))) (omega arith) (omega arith)
    ]

pub read_cong : (a b : List ℕ) (i n : ℕ) → ((k : ℕ) → i ≤ k → k < i + n → get_or a k 0 ≡ get_or b k 0) → read a i n ≡ read b i n
read_cong a b i zero h = refl
read_cong a b i (suc n) h =
    ap₂ {C = List ℕ} (λ x xs. x ∷ xs) (h i (omega arith) (omega arith))
    (read_cong a b (suc i) n (λ k p q. h k (omega arith) (omega arith)))

pub read_at : (a b : List ℕ) (i n : ℕ) → read a i n ≡ read b i n → (k : ℕ) → i ≤ k → k < i + n → get_or a k 0 ≡ get_or b k 0
read_at a b i zero e k p q = absurd (omega arith)
read_at a b i (suc n) e k p q =
    let hd : get_or a i 0 ≡ get_or b i 0 = cc in
    let tl : read a (suc i) n ≡ read b (suc i) n = cc in
    elim (ℕ_discrete k i) [
      | yes x ↦ ap (λ (j : ℕ). get_or a j 0) x ∙ hd ∙ ap (λ (j : ℕ). get_or b j 0) (sym x)
      | no d ↦ read_at a b (suc i) n tl k (omega arith) (omega arith)
    ]

-- a run in two parts
pub read-add : (l : List ℕ) (at i j : ℕ) → read l at (i + j) ≡ read l at i ++ read l (at + i) j
read-add l at zero j = rw (zero-add j, add-zero at)
read-add l at (suc i) j =
    let n : suc i + j ≡ suc (i + j) = omega arith in
    let k : suc at + i ≡ at + suc i = omega arith in
    rw n (ap (λ (x : List ℕ). get_or l at 0 ∷ x) (read-add l (suc at) i j ∙ rw k))

pub read_sets : (l : List ℕ) (i : ℕ) (vs : List ℕ) → i + length vs ≤ length l → read (sets l i vs) i (length vs) ≡ vs
read_sets l i [] h = refl
read_sets l i (v ∷ vs) h =
    ap₂ {C = List ℕ} (λ x xs. x ∷ xs)
    (sets_below (set l i v) (suc i) vs i (omega arith) ∙ get_or-set_same l i v 0 (omega arith))
    (read_sets (set l i v) (suc i) vs (omega (arith, length-set l i v)))

pub length-read : (a : List ℕ) (i n : ℕ) → length (read a i n) ≡ n
length-read a i zero = refl
length-read a i (suc n) = ap suc (length-read a (suc i) n)

pub equal-true : (a b : List ℕ) → equal a b ≡ true → a ≡ b
equal-true [] [] e = refl
equal-true [] (y ∷ ys) e = cc
equal-true (x ∷ xs) [] e = cc
equal-true (x ∷ xs) (y ∷ ys) e =
    ap₂ {C = List ℕ} (λ z zs. z ∷ zs) (eqb-true x y (and_left (eqb x y) (equal xs ys) e)) (equal-true xs ys (and_right (eqb x y) (equal xs ys) e))

pub equal-refl : (a : List ℕ) → equal a a ≡ true
equal-refl [] = refl
equal-refl (x ∷ xs) = ap₂ ◌&&◌ (eq-eqb x x refl) (equal-refl xs)

-- words put one after the other
-- what is past the end is not put
pub sets_past : (l : List ℕ) (i : ℕ) (vs : List ℕ) → length l ≤ i → sets l i vs ≡ l
sets_past l i [] h = refl
sets_past l i (v ∷ vs) h =
    let e : set l i v ≡ l = set_out l i v h in
    ap (λ (x : List ℕ). sets x (suc i) vs) e ∙ sets_past l (suc i) vs (omega arith)

pub sets_append : (l : List ℕ) (i : ℕ) (a b : List ℕ) → sets l i (a ++ b) ≡ sets (sets l i a) (i + length a) b
sets_append l i [] b = ap (λ (j : ℕ). sets l j b) (omega arith)
sets_append l i (v ∷ a) b = sets_append (set l i v) (suc i) a b ∙ ap (λ (j : ℕ). sets (sets (set l i v) (suc i) a) j b) (omega arith)

-- one word more
pub put_more : (out : List ℕ) (n : ℕ) (ws : List ℕ) (i : ℕ) → i < length ws → sets out n (take (i + 1) ws) ≡ set (sets out n (take i ws)) (n + i) (get_or ws i 0)
put_more out n ws i h =
    ap (λ (k : ℕ). sets out n (take k ws)) (add-one i) ∙ ap (sets out n) (take-suc ws i 0 h) ∙ sets_append out n (take i ws) (get_or ws i 0 ∷ [])
    ∙ ap (λ (k : ℕ). set (sets out n (take i ws)) (n + k) (get_or ws i 0)) (length-take-le i ws (omega arith))

-- a run put after another, and word by word
module _ (out : List ℕ) (n : ℕ) (l : List ℕ) (at : ℕ) where
  pub sets_read_add : (i j : ℕ) → sets out n (read l at (i + j)) ≡ sets (sets out n (read l at i)) (n + i) (read l (at + i) j)
  sets_read_add i j =
      ap (sets out n) (read-add l at i j) ∙ sets_append out n (read l at i) (read l (at + i) j)
      ∙ ap (λ (k : ℕ). sets (sets out n (read l at i)) (n + k) (read l (at + i) j)) (length-read l at i)

  pub copied_on : (i : ℕ) → set (sets out n (read l at i)) (n + i) (get_or l (at + i) 0) ≡ sets out n (read l at (i + 1))
  copied_on i = sym (sets_read_add i 1)

read_tail : (x : ℕ) (l : List ℕ) (i n : ℕ) → read (x ∷ l) (suc i) n ≡ read l i n
read_tail x l i zero = refl
read_tail x l i (suc n) = ap {B = List ℕ} (λ m. get_or l i 0 ∷ m) (read_tail x l (suc i) n)

pub read_all : (l : List ℕ) → read l 0 (length l) ≡ l
read_all [] = refl
read_all (x ∷ l) = ap {B = List ℕ} (λ m. x ∷ m) (read_tail x l 0 (length l) ∙ read_all l)
