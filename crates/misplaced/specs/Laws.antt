-- Pairs as the words that they carry.
use Prim.Native.Nat.{ℕ, zero, suc, ◌+◌, ◌-◌, ◌≤◌, ◌<◌}
use native.Mathlib.Nat.{zero-add}
use native.Mathlib.Omega.{arith}
use mathlib.Core.Path.{◌≡◌, refl, ap, ap₂, sym, ◌∙◌}
use mathlib.Core.Bool.{Bool, true, ◌&&◌}
use mathlib.Core.List.{List, [], ◌∷◌}
use mathlib.Core.Option.{none}
use native.Mathlib.Decide.{ℕ_discrete}
use lib.Dec.{eqb}
use borrow.Author.Tests.{eqb-true, eq-eqb}
use lib.ListN.{length, get_or, drop}
use Rattle.rules.specs.Word.{id_of}
use Rattle.rules.specs.Command.{command_size}
use Rattle.rules.specs.Form.{read}
use Rattle.rules.specs.Pci.{address_count, address, values, Inside, further, ended, expecting, misplaced, outside}
use Rattle.theory.proofs.Bools.{and_left, and_right}
use Rattle.theory.proofs.Pci.{between, expected, expecting_none}
use Rattle.command.specs.View.{size_at, InPlace, Passed}
use Rattle.command.proofs.Sizes.{size-pos}
use Rattle.pairs.specs.View.{addresses}
use Rattle.pairs.proofs.Pairs.{pair_count}
use Rattle.placed.specs.View.{placed}
use Rattle.placed.proofs.Placed.{placed-add, placed_again}
use Rattle.misplaced.specs.View.{behind, misplaced_from}

pub values_fit : (ps : List ℕ) → length (values ps) ≤ length ps
values_fit ps = omega (arith, pair_count ps)

abbrev pub placed_at : List ℕ → ℕ → ℕ → ℕ → Bool
placed_at ps at n id = placed id 0 (read (addresses ps) at n)

four_addresses : (id : ℕ) → address_count id ≡ 4
unfolding address_count
four_addresses id = omega arith

pub placed_parts : (ps : List ℕ) (at n id : ℕ) → placed_at ps at (4 + n) id ≡ (placed_at ps at 4 id && placed_at ps (at + 4) n id)
placed_parts ps at n id =
    placed-add id (addresses ps) at 4 n
    ∙ ap (λ (k : ℕ). placed_at ps at 4 id && placed id k (read (addresses ps) (at + 4) n)) (sym (zero-add (address_count id) ∙ four_addresses id))
    ∙ ap (λ (b : Bool). placed_at ps at 4 id && b) (placed_again id 0 (read (addresses ps) (at + 4) n))

-- ---- the pairs from a number on

-- the pair there, and the others
behind_pair : (ps : List ℕ) (at : ℕ) → at < length (values ps) → behind at ps ≡ get_or (addresses ps) at 0 ∷ get_or (values ps) at 0 ∷ behind (suc at) ps
behind_pair [] at h = absurd (omega arith)
behind_pair (a ∷ []) at h = absurd (omega arith)
behind_pair (a ∷ v ∷ ps) zero h = refl
behind_pair (a ∷ v ∷ ps) (suc at) h = behind_pair ps at (omega arith)

behind-values : (ps : List ℕ) (at : ℕ) → values (behind at ps) ≡ drop at (values ps)
behind-values ps zero = refl
behind-values [] (suc at) = refl
behind-values (a ∷ []) (suc at) = refl
behind-values (a ∷ v ∷ ps) (suc at) = behind-values ps at

-- ---- where pairs are expected

-- no pair is left
pub at_end : (ps : List ℕ) (o : Inside) (left p at : ℕ) → length (values ps) ≤ at → misplaced o left p (behind at ps) ≡ ended o left
unfolding misplaced
at_end [] o left p zero h = refl
at_end [] o left p (suc at) h = refl
at_end (a ∷ []) o left p zero h = refl
at_end (a ∷ []) o left p (suc at) h = refl
at_end (a ∷ v ∷ ps) o left p zero h = absurd (omega arith)
at_end (a ∷ v ∷ ps) o left p (suc at) h = at_end ps o left p at (omega arith)

pub none_behind : (ps : List ℕ) (at : ℕ) → length (values ps) ≤ at → misplaced_from at ps ≡ none
none_behind ps at h = at_end ps outside 0 at at h

module _ (ps : List ℕ) where
  -- the pair at a number, inside a command
  pub inside_at : (o : Inside) (left at : ℕ) → at < length (values ps)
      → misplaced o (suc left) at (behind at ps) ≡ expecting (address o.id o.word) (get_or (addresses ps) at 0) at (misplaced (further o) left (suc at) (behind (suc at) ps))
  unfolding misplaced
  inside_at o left at h = ap (misplaced o (suc left) at) (behind_pair ps at h)

  -- the command whose first pair stands at a number
  abbrev pub here : ℕ → Inside
  here at = record { first = at; id = id_of (get_or (values ps) at 0); word = 0 }

  pub opened : (at : ℕ) → at < length (values ps) → misplaced_from at ps ≡ misplaced (here at) (size_at (values ps) at) at (behind at ps)
  unfolding misplaced
  opened at h =
      let v : ℕ = get_or (values ps) at 0 in
      let n : ℕ = size_at (values ps) at in
      let ws : values (behind (suc at) ps) ≡ drop (suc at) (values ps) = behind-values ps (suc at) in
      let pos : 0 < n = size-pos (values ps) at n refl in
      let e : suc (n - 1) ≡ n = omega (arith, pos) in
      ap (misplaced outside 0 at) (behind_pair ps at h)
      ∙ ap (λ (l : List ℕ). expecting (address (id_of v) 0) (get_or (addresses ps) at 0) at (misplaced (further (here at)) (command_size v l - 1) (suc at) (behind (suc at) ps))) ws
      ∙ sym (inside_at (here at) (n - 1) at h)
      ∙ ap (λ (m : ℕ). misplaced (here at) m at (behind at ps)) e

  -- pairs in place are passed
  passes : (o : Inside) (left at : ℕ) → at + left ≤ length (values ps) → placed o.id o.word (read (addresses ps) at left) ≡ true
      → misplaced o left at (behind at ps) ≡ misplaced_from (at + left) ps
  passes o zero at h t = between o outside at (behind at ps) ∙ ap (λ (k : ℕ). misplaced_from k ps) (omega arith)
  passes o (suc left) at h t =
      let e = eqb-true (get_or (addresses ps) at 0) (address o.id o.word) (and_left _ (placed o.id (suc o.word) (read (addresses ps) (suc at) left)) t) in
      inside_at o left at (omega arith)
      ∙ expected (address o.id o.word) (get_or (addresses ps) at 0) at _ e
      ∙ passes (further o) left (suc at) (omega arith) (and_right (eqb (get_or (addresses ps) at 0) (address o.id o.word)) _ t)
      ∙ ap (λ (k : ℕ). misplaced_from k ps) (omega arith)

  -- neither: they are all there, in place
  in_place_lem : (o : Inside) (left at : ℕ) → at ≤ length (values ps) → misplaced o left at (behind at ps) ≡ none
      → (at + left ≤ length (values ps)) × (placed o.id o.word (read (addresses ps) at left) ≡ true)
  in_place_lem o zero at h e = (omega arith, refl)
  in_place_lem o (suc left) at h e = elim (ℕ_discrete at (length (values ps))) [
    | yes q ↦ let z = sym (at_end ps o (suc left) at at (omega (arith, q))) ∙ e in let y : ◌≡◌ {A = ℕ} 0 1 = cc in absurd (omega arith)
    | no q ↦
        let x = expecting_none (address o.id o.word) (get_or (addresses ps) at 0) at (misplaced (further o) left (suc at) (behind (suc at) ps)) (sym (inside_at o left at (omega (arith, q))) ∙ e) in
        let later = in_place_lem (further o) left (suc at) (omega (arith, q)) x.1 in
        (omega (arith, later.0), ap₂ (λ (a b : Bool). a && b) (eq-eqb (get_or (addresses ps) at 0) (address o.id o.word) x.0) later.1)
  ]

  -- ---- of the command at a number

  module _ (at : ℕ) (h : at < length (values ps)) where
    pub command_passes : (n : ℕ) → n ≡ size_at (values ps) at → at + n ≤ length (values ps) → placed (id_of (get_or (values ps) at 0)) 0 (read (addresses ps) at n) ≡ true
        → misplaced_from at ps ≡ misplaced_from (at + n) ps
    command_passes n e f t =
        opened at h ∙ ap (λ (m : ℕ). misplaced (here at) m at (behind at ps)) (sym e) ∙ passes (here at) n at f t

    pub command_in_place : misplaced_from at ps ≡ none
        → (at + size_at (values ps) at ≤ length (values ps)) × (placed (id_of (get_or (values ps) at 0)) 0 (read (addresses ps) at (size_at (values ps) at)) ≡ true)
    command_in_place e = in_place_lem (here at) (size_at (values ps) at) at (omega arith) (sym (opened at h) ∙ e)

pub pairs_passed : (ps : List ℕ) (at to : ℕ) → at < length (values ps) → Passed values placed_at ps at to → misplaced_from at ps ≡ misplaced_from to ps
pairs_passed ps at to h p =
    command_passes ps at h (size_at (values ps) at) refl (omega (arith, p.end, p.inside)) p.right ∙ ap (λ (k : ℕ). misplaced_from k ps) (sym p.end)

pub pairs_in_place : (ps : List ℕ) (at : ℕ) → at < length (values ps) → misplaced_from at ps ≡ none → InPlace values placed_at ps at
pairs_in_place ps at h e = (command_in_place ps at h e).1
