-- Addresses in place, one behind the other.
use Prim.Native.Nat.{ℕ, suc, ◌+◌, ◌*◌}
use native.Mathlib.Nat.{add-mod_right}
use native.Mathlib.Omega.{arith}
use mathlib.Core.Path.{◌≡◌, refl, ap, ap₂, sym, ◌∙◌}
use mathlib.Core.Bool.{Bool, true, false, ◌&&◌}
use mathlib.Core.List.{List, [], ◌∷◌, ◌++◌}
use lib.Dec.{eqb}
use lib.ListN.{length, get_or}
use Rattle.rules.specs.Form.{read}
use Rattle.rules.specs.Pci.{address_count, address}
use Rattle.theory.proofs.Image.{length-read, read-add}
use Rattle.placed.specs.View.{placed}

and_assoc : (a b c : Bool) → ((a && b) && c) ≡ (a && (b && c))
and_assoc true b c = refl
and_assoc false b c = refl

and-true : (b : Bool) → (b && true) ≡ b
and-true true = refl
and-true false = refl

placed_append : (id k : ℕ) (xs ys : List ℕ) → placed id k (xs ++ ys) ≡ (placed id k xs && placed id (k + length xs) ys)
placed_append id k [] ys = ap (λ (j : ℕ). placed id j ys) (omega arith)
placed_append id k (x ∷ xs) ys =
    let j : suc k + length xs ≡ k + suc (length xs) = omega arith in
    ap (λ (b : Bool). eqb x (address id k) && b) (placed_append id (suc k) xs ys ∙ ap (λ (n : ℕ). placed id (suc k) xs && placed id n ys) j)
    ∙ sym (and_assoc (eqb x (address id k)) (placed id (suc k) xs) (placed id (k + suc (length xs)) ys))

-- of a run in two parts
pub placed-add : (id : ℕ) (l : List ℕ) (at i j : ℕ) → placed id 0 (read l at (i + j)) ≡ (placed id 0 (read l at i) && placed id i (read l (at + i) j))
placed-add id l at i j =
    let n : 0 + length (read l at i) ≡ i = omega (arith, length-read l at i) in
    ap (placed id 0) (read-add l at i j) ∙ placed_append id 0 (read l at i) (read l (at + i) j)
    ∙ ap (λ (k : ℕ). placed id 0 (read l at i) && placed id k (read l (at + i) j)) n

pub placed_one : (id : ℕ) (l : List ℕ) (at i : ℕ) → placed id 0 (read l at (i + 1)) ≡ (placed id 0 (read l at i) && eqb (get_or l (at + i) 0) (address id i))
placed_one id l at i = placed-add id l at i 1 ∙ ap (λ (b : Bool). placed id 0 (read l at i) && b) (and-true (eqb (get_or l (at + i) 0) (address id i)))

-- a command's addresses in turn
pub placed_again : (id k : ℕ) (xs : List ℕ) → placed id (k + address_count id) xs ≡ placed id k xs
unfolding address
placed_again id k [] = refl
placed_again id k (x ∷ xs) =
    let on : suc (k + address_count id) ≡ suc k + address_count id = omega arith in
    ap₂ (λ (n : ℕ) (b : Bool). eqb x (0x2800 + id * 4 + n * 4) && b) (add-mod_right k (address_count id)) (ap (λ (n : ℕ). placed id n xs) on ∙ placed_again id (suc k) xs)
