-- Lines and rows, as loops go through them.
use Prim.Native.Nat.{ℕ, ◌+◌, ◌-◌, ◌≤◌, ◌<◌}
use native.Mathlib.Omega.{arith}
use native.Mathlib.Numerals.{add-one}
use mathlib.Core.Path.{◌≡◌, refl, ◌∙◌}
use mathlib.Core.Bool.{Bool, true, false, ◌&&◌}
use mathlib.Core.List.{List, [], ◌∷◌, ◌++◌, append_assoc, append-nil}
use lib.Dec.{eqb}
use lib.ListN.{length, get_or, take, drop, length-drop}
use lib.Seq.{take_all, take-suc, drop-cons}
use borrow.Author.Tests.{eq-eqb, ne_eqb}
use Rattle.format.specs.Format.{line_of, row_from}

-- the part of a list from position k on, as a slice has it
pub part-is : (k : ℕ) (l : List ℕ) → take (length l - k) (drop k l) ≡ drop k l
part-is k l = take_all (length l - k) (drop k l) (omega (arith, length-drop k l))

-- ---- the first line, as far as byte i

pub line_none : (l : List ℕ) → length l ≡ 0 → line_of l ≡ []
unfolding line_of
line_none [] h = refl
line_none (c ∷ cs) h = absurd (omega arith)

pub record LineGoesOn (i : ℕ) (l : List ℕ) : Type 0 where
  pub line-is : line_of l ≡ take i l ++ line_of (drop i l)

module _ (l : List ℕ) (i : ℕ) (a : LineGoesOn i l) where
  pub line-further : i < length l → (get_or l i 0 ≡ 0x0A → ⊥) → LineGoesOn (i + 1) l
  unfolding line_of
  line-further h n =
      record {
        line-is = a.line-is
            ∙ rw (drop-cons l i 0 h, ne_eqb (get_or l i 0) 0x0A n, add-one, take-suc l i 0 h, append_assoc);
      }

  pub line_end : i < length l → get_or l i 0 ≡ 0x0A → line_of l ≡ take i l
  unfolding line_of
  line_end h e = a.line-is ∙ rw (drop-cons l i 0 h, eq-eqb (get_or l i 0) 0x0A e, append-nil)

  pub line_whole : length l ≤ i → line_of l ≡ take i l
  line_whole h = a.line-is ∙ rw (line_none (drop i l) (omega (arith, length-drop i l)), append-nil)

-- ---- rows

module _ (a b : ℕ) (fresh : Bool) where
  pub row_none : (l : List ℕ) → length l < 2 → row_from a b fresh l ≡ []
  unfolding row_from
  row_none [] h = refl
  row_none (x ∷ []) h = refl
  row_none (x ∷ y ∷ cs) h = absurd (omega arith)

  abbrev keyed : ℕ → ℕ → Bool
  keyed x y = (fresh && eqb x a) && eqb y b

  and_assoc : (s t u : Bool) → s && (t && u) ≡ (s && t) && u
  and_assoc true t u = refl
  and_assoc false t u = refl

  pub row-found : (l : List ℕ) → 2 ≤ length l → keyed (get_or l 0 0) (get_or l 1 0) ≡ true → row_from a b fresh l ≡ line_of (drop 2 l)
  unfolding row_from
  row-found [] h e = absurd (omega arith)
  row-found (x ∷ []) h e = absurd (omega arith)
  row-found (x ∷ y ∷ cs) h e = rw (and_assoc fresh (eqb x a) (eqb y b), e)

  pub row-further : (l : List ℕ) → 2 ≤ length l → keyed (get_or l 0 0) (get_or l 1 0) ≡ false
      → row_from a b fresh l ≡ row_from a b (eqb (get_or l 0 0) 0x0A) (drop 1 l)
  unfolding row_from
  row-further [] h e = absurd (omega arith)
  row-further (x ∷ []) h e = absurd (omega arith)
  row-further (x ∷ y ∷ cs) h e = rw (and_assoc fresh (eqb x a) (eqb y b), e)
