-- Items written one behind the other.
use Prim.Native.Nat.{ℕ, suc, zero, ◌+◌, ◌<◌}
use native.Mathlib.Nat.{add-zero}
use native.Mathlib.Numerals.{add-one}
use native.Mathlib.Omega.{arith}
use mathlib.Core.Path.{◌≡◌, ap, ◌∙◌}
use mathlib.Core.List.{List, [], ◌∷◌}
use lib.ListN.{length, get_or, take, set}
use lib.Seq.{sets}

-- one item more
pub sets_more : {X : Type 0} (xs zs : List X) (a i : ℕ) (z : X) → i < length zs → set (sets xs a (take i zs)) (a + i) (get_or zs i z) ≡ sets xs a (take (i + 1) zs)
sets_more xs [] a i z h = absurd (omega arith)
sets_more xs (y ∷ zs) a zero z h = rw (add-zero a)
sets_more xs (y ∷ zs) a (suc i) z h =
    let e : a + suc i ≡ suc a + i = omega arith in
    rw (e, add-one) (sets_more (set xs a y) zs (suc a) i z (omega arith) ∙ ap (λ (n : ℕ). sets (set xs a y) (suc a) (take n zs)) (add-one i))
