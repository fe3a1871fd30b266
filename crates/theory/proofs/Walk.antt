-- The walk by position, for a loop that holds a cursor.
use Prim.Native.Nat.{ℕ, zero, suc, ◌+◌, ◌≤◌, ◌<◌}
use native.Mathlib.Omega.{arith}
use mathlib.Core.Path.{◌≡◌, refl, ap, ◌∙◌}
use mathlib.Core.List.{List, [], ◌∷◌}
use lib.ListN.{length, get_or, drop, drop_of_length-le}
use lib.Seq.{drop-cons, drop-drop}
use Rattle.rules.specs.Walk.{State, step, accepted, onward, walk}

walk-drop : (s : State) (p k : ℕ) (ws : List ℕ) → walk s p k ws ≡ walk s (p + k) 0 (drop k ws)
unfolding walk
walk-drop s p zero [] = refl
walk-drop s p (suc k) [] = refl
walk-drop s p zero (w ∷ ws) = ap (λ (q : ℕ). walk s q 0 (w ∷ ws)) (omega arith)
walk-drop s p (suc k) (w ∷ ws) = walk-drop s (suc p) k ws ∙ ap (λ (q : ℕ). walk s q 0 (drop k ws)) (omega arith)

-- one turn of a loop over positions
pub walk_at : (s : State) (p : ℕ) (ws : List ℕ) → p < length ws
    → walk s p 0 (drop p ws)
    ≡ onward p (λ t k. walk t (suc p + k) 0 (drop (suc p + k) ws)) (step s (get_or ws p 0) (drop (suc p) ws))
unfolding walk
walk_at s p ws h = ap (walk s p 0) (drop-cons ws p 0 h) ∙
    ap (λ go. onward p go (step s (get_or ws p 0) (drop (suc p) ws)))
    (λ i t k. (walk-drop t (suc p) k (drop (suc p) ws) ∙ ap (walk t (suc p + k) 0) (drop-drop k (suc p) ws)) i)

pub walk_end : (s : State) (p : ℕ) (ws : List ℕ) → length ws ≤ p → walk s p 0 (drop p ws) ≡ accepted []
unfolding walk
walk_end s p ws h = ap (walk s p 0) (drop_of_length-le ws h)
