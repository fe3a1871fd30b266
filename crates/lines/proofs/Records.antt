-- The lines of some records, record by record.
use Prim.Native.Nat.{ℕ, ◌≤◌, ◌<◌}
use native.Mathlib.Omega.{arith}
use mathlib.Core.Path.{◌≡◌, refl}
use mathlib.Core.List.{List, [], ◌∷◌, ◌++◌}
use lib.ListN.{length, get_or, drop}
use Rattle.lines.specs.Lines.{record_line, record_lines}

module _ (table format : List ℕ) where
  pub lines_none : (l : List ℕ) → length l < 4 → record_lines table format l ≡ []
  lines_none [] h = refl
  lines_none (a ∷ []) h = refl
  lines_none (a ∷ b ∷ []) h = refl
  lines_none (a ∷ b ∷ c ∷ []) h = refl
  lines_none (a ∷ b ∷ c ∷ d ∷ l) h = absurd (omega arith)

  pub lines-more : (l : List ℕ) → 4 ≤ length l
      → record_lines table format l
      ≡ record_line table format (get_or l 0 0) (get_or l 1 0) (get_or l 2 0) (get_or l 3 0) ++ record_lines table format (drop 4 l)
  lines-more [] h = absurd (omega arith)
  lines-more (a ∷ []) h = absurd (omega arith)
  lines-more (a ∷ b ∷ []) h = absurd (omega arith)
  lines-more (a ∷ b ∷ c ∷ []) h = absurd (omega arith)
  lines-more (a ∷ b ∷ c ∷ d ∷ l) h = refl
