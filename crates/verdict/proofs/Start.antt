-- The command that a word stands in, found command by command.
use Prim.Native.Nat.{ℕ, zero, suc, ◌+◌, ◌-◌, ◌≤◌, ◌<◌}
use native.Mathlib.Omega.{arith}
use mathlib.Core.Path.{◌≡◌, refl, ◌∙◌}
use mathlib.Core.List.{List, [], ◌∷◌}
use lib.ListN.{length, drop, length-drop}
use lib.Seq.{drop-cons, drop-drop}
use borrow.Author.Tests.{eq-eqb, ne_eqb}
use Rattle.command.specs.View.{size_at}
use Rattle.command.proofs.Sizes.{size-pos}
use Rattle.rules.specs.Place.{start_from}
use Rattle.theory.proofs.Place.{inside}

module _ (p : ℕ) where
  -- behind the words of a command
  beyond : (first k at : ℕ) (ws : List ℕ) → at + k ≤ p → start_from p first k at ws ≡ start_from p first 0 (at + k) (drop k ws)
  unfolding start_from
  beyond first zero at ws a = let e : at + 0 ≡ at = omega arith in rw e
  beyond first (suc k) at [] a = refl
  beyond first (suc k) at (w ∷ ws) a =
      let e : suc at + k ≡ at + suc k = omega arith in
      rw (ne_eqb at p (λ q. omega (arith, q)), ← e) (beyond first k (suc at) ws (omega arith))

  -- where a command begins, no other is before it
  begins : (f g at : ℕ) (ws : List ℕ) → (length ws ≡ 0 → ⊥) → start_from p f 0 at ws ≡ start_from p g 0 at ws
  unfolding start_from
  begins f g at [] h = absurd (h refl)
  begins f g at (w ∷ ws) h = refl

  module _ (l : List ℕ) (at : ℕ) (h : p < length l) where
    abbrev from : ℕ → ℕ
    from i = start_from p 0 0 i (drop i l)

    pub start_here : at ≡ p → from at ≡ at
    unfolding start_from
    start_here e = rw (drop-cons l at 0 (omega arith), eq-eqb at p e)

    module _ (n : ℕ) (s : n ≡ size_at l at) (before : at < p) where
      step : from at ≡ start_from p at (size_at l at - 1) (suc at) (drop (suc at) l)
      unfolding start_from
      step = rw (drop-cons l at 0 (omega arith), ne_eqb at p (λ q. omega (arith, q)))

      pub start-inside : p - at < n → from at ≡ at
      start-inside r = step ∙ inside p at (size_at l at - 1) (suc at) (drop (suc at) l) (omega arith) (omega arith)

      pub start_beyond : n ≤ p - at → from at ≡ from (at + n)
      start_beyond r =
          let k : suc at + (size_at l at - 1) ≡ at + n = omega (arith, size-pos l at n s) in
          step ∙ beyond at (size_at l at - 1) (suc at) (drop (suc at) l) (omega (arith, k))
          ∙ rw (drop-drop (size_at l at - 1) (suc at) l, k) (begins at 0 (at + n) (drop (at + n) l) (λ z. omega (arith, z, length-drop (at + n) l)))
