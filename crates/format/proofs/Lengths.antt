-- How long rows, holes and formats are.
use Prim.Native.Nat.{ℕ, ◌+◌, ◌/◌, ◌%◌, ◌≤◌}
use native.Mathlib.Omega.{arith}
use mathlib.Core.Path.{◌≡◌}
use mathlib.Core.Bool.{Bool, true, ◌&&◌}
use mathlib.Core.List.{List, [], ◌∷◌, ◌++◌}
use lib.Dec.{eqb, leb}
use lib.ListN.{length, length-append}
use borrow.Author.Tests.{leb-true}
use Rattle.theory.proofs.Bools.{and_left, and_right}
use Rattle.text.specs.Text.{digit, hex, decimal}
use Rattle.text.proofs.Numbers.{length-cond, decimal-length, hex-length}
use Rattle.format.specs.Format.{line_of, row_from, hex_row, hole, formatted}

-- no line, from any byte of it on, is longer than m
abbrev pub narrow : ℕ → List ℕ → Bool
narrow m [] = true
narrow m (c ∷ cs) = leb (length (line_of (c ∷ cs))) m && narrow m cs

module _ (m a b : ℕ) where
  line_narrow : (cs : List ℕ) → narrow m cs ≡ true → length (line_of cs) ≤ m
  unfolding line_of
  line_narrow [] e = omega arith
  line_narrow (c ∷ cs) e = leb-true _ m (and_left _ _ e)

  pub row-length : (fresh : Bool) (t : List ℕ) → narrow m t ≡ true → length (row_from a b fresh t) ≤ m
  unfolding row_from
  row-length fresh [] e = omega arith
  row-length fresh (x ∷ []) e = omega arith
  row-length fresh (x ∷ y ∷ cs) e =
      let later : narrow m (y ∷ cs) ≡ true = and_right (leb (length (line_of (x ∷ y ∷ cs))) m) _ e in
      length-cond (fresh && (eqb x a && eqb y b)) (line_of cs) (row_from a b (eqb x 0x0A) (y ∷ cs)) m
      (line_narrow cs (and_right (leb (length (line_of (y ∷ cs))) m) _ later)) (row-length (eqb x 0x0A) (y ∷ cs) later)

module _ (table : List ℕ) (m : ℕ) (e : narrow m table ≡ true) where
  hole-length : (k n : ℕ) → length (hole table k n) ≤ m + 20
  hole-length k n =
      length-cond (eqb k 0x64) (decimal n) _ (m + 20) (omega (arith, decimal-length n))
      (length-cond (eqb k 0x6E) (hex_row table n) (hex (k % 16) n) (m + 20) (omega (arith, row-length m (digit (n / 16 % 16)) (digit (n % 16)) true table e)) (omega (arith, hex-length (k % 16) n)))

  -- room for a number of holes
  abbrev pub holes : List ℕ → ℕ
  holes [] = 0
  holes (n ∷ ns) = m + 20 + holes ns

  pub formatted-length : (f ns : List ℕ) → length (formatted table f ns) ≤ length f + holes ns
  unfolding formatted
  formatted-length f [] = omega arith
  formatted-length [] (n ∷ ns) = omega arith
  formatted-length (c ∷ []) (n ∷ ns) = omega arith
  formatted-length (c ∷ k ∷ f) (n ∷ ns) =
      length-cond (eqb c 0x25) (hole table k n ++ formatted table f ns) (c ∷ formatted table (k ∷ f) (n ∷ ns)) _
      (omega (arith, length-append (hole table k n) (formatted table f ns), hole-length k n, formatted-length f ns))
      (omega (arith, formatted-length (k ∷ f) (n ∷ ns)))
