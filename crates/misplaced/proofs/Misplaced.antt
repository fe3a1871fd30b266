-- The first pair out of place.
use Prim.Native.Nat.{ℕ, zero, suc, ◌+◌, ◌-◌, ◌≤◌, ◌<◌}
use native.Mathlib.Nat.{add-zero, zero-add}
use native.Mathlib.Omega.{arith}
use mathlib.Core.Path.{◌≡◌, ap, sym, ◌∙◌, subst}
use mathlib.Core.Bool.{true, false}
use mathlib.Core.List.{List}
use mathlib.Core.Option.{some}
use lib.Dec.{eqb}
use borrow.Author.Tests.{eqb-true}
use lib.ListN.{length, get_or}
use Rattle.rules.specs.Word.{id_of}
use Rattle.rules.specs.Values.{refusal}
use Rattle.rules.specs.Form.{read}
use Rattle.rules.specs.Pci.{address, values, Inside, further, misplaced}
use Rattle.theory.proofs.Bools.{and_left, and_right}
use Rattle.theory.proofs.Pci.{expected}
use Rattle.command.specs.View.{size_at}
use Rattle.pairs.specs.View.{addresses}
use Rattle.placed.specs.View.{placed}
use Rattle.misplaced.specs.View.{behind, misplaced_from, Leading}
use Rattle.misplaced.specs.Laws.{at_end, inside_at, here, opened, command_passes}

module _ (ps : List ℕ) where
  -- 13: the first pair out of place
  wrong_at : (o : Inside) (left at i : ℕ) → i < left → at + i < length (values ps) → placed o.id o.word (read (addresses ps) at i) ≡ true
      → eqb (get_or (addresses ps) (at + i) 0) (address o.id (o.word + i)) ≡ false → misplaced o left at (behind at ps) ≡ some (refusal 13 (at + i))
  wrong_at o zero at i l h t w = absurd (omega arith)
  wrong_at o (suc left) at zero l h t w =
      let w' : eqb (get_or (addresses ps) at 0) (address o.id o.word) ≡ false = rw (add-zero at, add-zero o.word) at w in
      inside_at ps o left at (omega arith) ∙ rw (w', add-zero at)
  wrong_at o (suc left) at (suc i) l h t w =
      let e = eqb-true (get_or (addresses ps) at 0) (address o.id o.word) (and_left _ (placed o.id (suc o.word) (read (addresses ps) (suc at) i)) t) in
      let j : at + suc i ≡ suc at + i = omega arith in
      let k : o.word + suc i ≡ suc o.word + i = omega arith in
      inside_at ps o left at (omega arith)
      ∙ expected (address o.id o.word) (get_or (addresses ps) at 0) at _ e
      ∙ wrong_at (further o) left (suc at) i (omega arith) (omega arith) (and_right (eqb (get_or (addresses ps) at 0) (address o.id o.word)) _ t) (rw (← j, ← k) w)
      ∙ ap (λ (m : ℕ). some (refusal 13 m)) (sym j)

  -- 14: the pairs end first
  cut_at : (o : Inside) (left at r : ℕ) → at + r ≡ length (values ps) → r < left → placed o.id o.word (read (addresses ps) at r) ≡ true
      → misplaced o left at (behind at ps) ≡ some (refusal 14 o.first)
  cut_at o zero at r h l t = absurd (omega arith)
  cut_at o (suc left) at zero h l t = at_end ps o (suc left) at at (omega arith)
  cut_at o (suc left) at (suc r) h l t =
      let e = eqb-true (get_or (addresses ps) at 0) (address o.id o.word) (and_left _ (placed o.id (suc o.word) (read (addresses ps) (suc at) r)) t) in
      inside_at ps o left at (omega arith)
      ∙ expected (address o.id o.word) (get_or (addresses ps) at 0) at _ e
      ∙ cut_at (further o) left (suc at) r (omega arith) (omega arith) (and_right (eqb (get_or (addresses ps) at 0) (address o.id o.word)) _ t)

  -- ---- of the command at a number

  module _ (at : ℕ) (h : at < length (values ps)) where
    module _ (words r : ℕ) (s : words ≡ size_at (values ps) at) (k : Leading ps at words (id_of (get_or (values ps) at 0)) r) where
      pub leading-wrong : r < words → r < length (values ps) - at → misplaced_from at ps ≡ some (refusal 13 (at + r))
      leading-wrong l t = opened ps at h ∙ wrong_at (here ps at) (size_at (values ps) at) at r (omega arith) (omega arith) k.right (rw zero-add (k.wrong l (omega arith)))

      pub leading_cut : r < words → length (values ps) - at ≤ r → misplaced_from at ps ≡ some (refusal 14 at)
      leading_cut l t = opened ps at h ∙ cut_at (here ps at) (size_at (values ps) at) at r (omega (arith, k.there)) (omega (arith, k.there)) k.right

      pub leading-all : words ≤ r → (at + words ≤ length (values ps)) × (misplaced_from at ps ≡ misplaced_from (at + words) ps)
      leading-all l =
          let e : r ≡ words = omega (arith, k.most) in
          let f : at + words ≤ length (values ps) = omega (arith, k.there) in
          (f, command_passes ps at h words s f (subst (λ (n : ℕ). placed (id_of (get_or (values ps) at 0)) 0 (read (addresses ps) at n) ≡ true) e k.right))
