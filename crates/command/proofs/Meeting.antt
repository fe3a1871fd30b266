-- The command at a position of a buffer whose words may be out of place, by the tests that the code makes.
use Prim.Native.Nat.{ℕ, ◌+◌, ◌-◌, ◌≤◌, ◌<◌}
use native.Mathlib.Omega.{arith}
use mathlib.Core.Path.{◌≡◌, refl, ap, ap₂, sym, ◌∙◌}
use mathlib.Core.Bool.{Bool, true, false, cond, ◌&&◌}
use mathlib.Core.List.{List}
use lib.Dec.{leb}
use borrow.Author.Tests.{le-leb, leb-true, leb-false, le-ltb, lt-ltb}
use lib.ListN.{length}
use Rattle.rules.specs.Command.{payload}
use Rattle.rules.specs.Values.{shift}
use Rattle.theory.proofs.Bools.{and_left, and_right}
use Rattle.table.specs.declared.Group.{Group}
use Rattle.table.specs.Ids.{group_id}
use Rattle.table.specs.Tables.{more, group_at}
use Rattle.values.specs.First.{found}
use Rattle.faults.specs.Faults.{any_undefined, value_fault}
use Rattle.std.specs.Prelude.{Ok, Err}
use Rattle.command.specs.View.{size_at, refused_at, group_of, if_legal, whole_group, decoded_at, KnownAt, InPlace, Passed, Met, placed_group}
use Rattle.command.proofs.Sizes.{size-group, size-single}
use Rattle.command.proofs.Decoding.{group_valued}

no_contradiction : true ≡ false → ⊥
no_contradiction z = let y : ◌≡◌ {A = ℕ} 0 1 = cc in omega arith

module _ (words : List ℕ → List ℕ) (placed : List ℕ → ℕ → ℕ → ℕ → Bool) (b : List ℕ) (at id row : ℕ) (a : KnownAt (words b) at id row) (small : id < 256) where
  right_here : InPlace words placed b at → (n : ℕ) → size_at (words b) at ≡ n → placed b at n id ≡ true
  right_here e n s = ap₂ (λ (i m : ℕ). placed b at m i) a.id-is (sym s) ∙ e

  passed : (n : ℕ) → size_at (words b) at ≡ n → at + n ≤ length (words b) → placed b at n id ≡ true → Passed words placed b at (at + n)
  passed n s f t = record { end = ap (λ (m : ℕ). at + m) (sym s); inside = f; right = ap₂ (λ (i m : ℕ). placed b at m i) (sym a.id-is) s ∙ t }

  -- ---- a command of one word

  module _ (single : group_id id ≡ false) where
    one : size_at (words b) at ≡ 1
    one = size-single (words b) at id a.id-is small single

    pub single_out : placed b at 1 id ≡ false → InPlace words placed b at → ⊥
    single_out t e = no_contradiction (sym (right_here e 1 one) ∙ t)

    pub single_passed : placed b at 1 id ≡ true → Passed words placed b at (at + 1)
    single_passed t = passed 1 one (omega (arith, a.inside)) t

  -- ---- a command of four

  module _ (parts : (b : List ℕ) (at n id : ℕ) → placed b at (4 + n) id ≡ (placed b at 4 id && placed b (at + 4) n id)) (group : group_id id ≡ true) (four : at + 4 ≤ length (words b)) (g : Group) (eg : g ≡ group_at (words b) at) (n : ℕ) (en : n ≡ payload id g.header (more g)) where
    size : size_at (words b) at ≡ 4 + n
    size =
        size-group (words b) at id a.id-is small group
        ∙ ap (λ (x : ℕ). 4 + x) (sym (en ∙ ap (λ (x : Group). payload id x.header (more x)) eg))

    pub group_out : placed b at 4 id ≡ false → InPlace words placed b at → ⊥
    group_out t e = no_contradiction (sym (and_left (placed b at 4 id) _ (sym (parts b at n id) ∙ right_here e (4 + n) size)) ∙ t)

    -- the words behind the own
    abbrev there : Bool
    there = leb n (length (words b) - (at + 4))

    abbrev behind : Bool
    behind = there && placed b (at + 4) n id

    behind-right : there ≡ true → InPlace words placed b at → behind ≡ true
    behind-right q e = ap₂ (λ (b c : Bool). b && c) q (and_right (placed b at 4 id) _ (sym (parts b at n id) ∙ right_here e (4 + n) size))

    behind-inside : there ≡ true → at + (4 + n) ≤ length (words b)
    behind-inside q = omega (arith, leb-true n (length (words b) - (at + 4)) q, four)

    module _ (t : placed b at 4 id ≡ true) {u : Bool} (eu : u ≡ any_undefined row g) (clear : u ≡ false) where
      valued : decoded_at (words b) at ≡ if_legal at id g (whole_group (words b) at (4 + n) row)
      valued = group_valued (words b) at id row a small group four g eg eu clear n en

      refused : found (value_fault id g) ≡ false → behind ≡ false → (q : Bool) → there ≡ q → InPlace words placed b at → refused_at 9 at ≡ decoded_at (words b) at
      refused f u true q e = absurd (no_contradiction (sym (behind-right q e) ∙ u))
      refused f u false q e =
          sym (valued ∙ rw (f, lt-ltb (length (words b)) (at + (4 + n)) (omega (arith, leb-false n (length (words b) - (at + 4)) q, four))))

      by_place : found (value_fault id g) ≡ false → (p : Bool) → behind ≡ p → Met words placed b at (cond p (Ok (group_of (4 + n) row)) (refused_at 9 at))
      by_place f true u =
          let q = and_left there _ u in (
            sym (valued ∙ rw (f, le-ltb (length (words b)) (at + (4 + n)) (behind-inside q))),
            passed (4 + n) size (behind-inside q) (parts b at n id ∙ ap₂ (λ (b c : Bool). b && c) t (and_right there _ u)),
          )
      by_place f false u = refused f u there refl

      -- 7 and 15 to 19, then the words behind
      pub met-group : Met words placed b at (if_legal at id g (placed_group words placed b at id n row))
      met-group =
          (elim (found (value_fault id g)) as (λ f. found (value_fault id g) ≡ f → Met words placed b at (cond f (Err (shift at (value_fault id g))) (placed_group words placed b at id n row))) [
            | true ↦ λ f e. sym (valued ∙ rw f)
            | false ↦ λ f. by_place f behind refl
          ]) refl

      -- with none behind
      pub met_fixed : n ≡ 0 → Met words placed b at (if_legal at id g (Ok (group_of 4 row)))
      met_fixed z =
          let p : placed b (at + 4) 0 id ≡ true = and_right (placed b at 4 id) _ (sym (parts b at 0 id) ∙ t) in
          rw (z, le-leb 0 (length (words b) - (at + 4)) (omega arith), p) at met-group
