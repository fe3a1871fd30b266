-- A format, hole by hole.
use Prim.Native.Nat.{ℕ, ◌≤◌, ◌<◌}
use native.Mathlib.Omega.{arith}
use mathlib.Core.Path.{◌≡◌, refl}
use mathlib.Core.List.{List, [], ◌∷◌, ◌++◌}
use lib.ListN.{length, get_or, drop}
use borrow.Author.Tests.{eq-eqb, ne_eqb}
use Rattle.format.specs.Format.{hole, formatted}

module _ (table : List ℕ) where
  -- no number is left, or no room for a hole
  pub format_rest : (f ns : List ℕ) → length ns < 1 → formatted table f ns ≡ f
  unfolding formatted
  format_rest f [] h = refl
  format_rest f (n ∷ ns) h = absurd (omega arith)

  pub format_short : (f ns : List ℕ) → length f < 2 → formatted table f ns ≡ f
  unfolding formatted
  format_short f [] h = refl
  format_short [] (n ∷ ns) h = refl
  format_short (c ∷ []) (n ∷ ns) h = refl
  format_short (c ∷ k ∷ f) (n ∷ ns) h = absurd (omega arith)

  pub format_byte : (f ns : List ℕ) → 2 ≤ length f → 1 ≤ length ns → (get_or f 0 0 ≡ 0x25 → ⊥)
      → formatted table f ns ≡ get_or f 0 0 ∷ formatted table (drop 1 f) ns
  unfolding formatted
  format_byte f [] l s h = absurd (omega arith)
  format_byte [] (n ∷ ns) l s h = absurd (omega arith)
  format_byte (c ∷ []) (n ∷ ns) l s h = absurd (omega arith)
  format_byte (c ∷ k ∷ f) (n ∷ ns) l s h = rw (ne_eqb c 0x25 h)

  pub format_hole : (f ns : List ℕ) → 2 ≤ length f → 1 ≤ length ns → get_or f 0 0 ≡ 0x25
      → formatted table f ns ≡ hole table (get_or f 1 0) (get_or ns 0 0) ++ formatted table (drop 2 f) (drop 1 ns)
  unfolding formatted
  format_hole f [] l s h = absurd (omega arith)
  format_hole [] (n ∷ ns) l s h = absurd (omega arith)
  format_hole (c ∷ []) (n ∷ ns) l s h = absurd (omega arith)
  format_hole (c ∷ k ∷ f) (n ∷ ns) l s h = rw (eq-eqb c 0x25 h)
