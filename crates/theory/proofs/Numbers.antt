-- No refusal of a list has number 0, 11, 20 or 21, none stands far behind its list, and 6 alone has a bit.
use Prim.Native.Nat.{ℕ, ◌+◌, ◌≤◌}
use native.Mathlib.Omega.{arith}
use mathlib.Core.Path.{◌≡◌, refl, ap, sym, ◌∙◌}
use mathlib.Core.Bool.{Bool, true, false, cond}
use mathlib.Core.List.{List}
use lib.Dec.{eqb, ltb}
use borrow.Author.Tests.{lt-ltb, not-true}
use lib.ListN.{length}
use Rattle.rules.specs.Verdict.{Refusal}
use Rattle.rules.specs.Word.{undefined}
use Rattle.rules.specs.Table.{Row}
use Rattle.rules.specs.Values.{refusal, value_faults, faults}
use Rattle.rules.specs.Walk.{Parsed, parse}
use Rattle.rules.specs.Answer.{refused_answer, tells_bit}
use Rattle.rules.specs.Pci.{values, parse_pairs}
use Rattle.theory.proofs.Bools.{not_both, neither}
use Rattle.theory.proofs.Refusals.{not_of_list, other_than_six, OfFaults, of_values, of_faults, OfRefusals, OfParsed, of_parse, of_pairs}

-- a refusal has a number of its own, its word is at most m, and its bit is by its number
pub record Proper (m : ℕ) (f : Refusal) : Type 0 where
  pub number : not_of_list f.number ≡ false
  pub near : f.word ≤ m
  pub bit : tells_bit (refused_answer f) ≡ true

module _ {m : ℕ} {f : Refusal} (p : Proper m f) where
  pub never_number : (k : ℕ) → not_of_list k ≡ true → f.number ≡ k → ⊥
  never_number k t e = not_both (not_of_list k) t (ap not_of_list (sym e) ∙ p.number)

  pub not-zero : f.number ≡ 0 → ⊥
  not-zero = never_number 0 refl

other_proper : (m n w : ℕ) → other_than_six n ≡ true → w ≤ m → Proper m (refusal n w)
other_proper m n w b h =
    let e = neither (eqb n 6) (not_of_list n) (not-true _ b) in
    record { number = e.1; near = h; bit = ap (λ (t : Bool). cond t (ltb 32 32) true) e.0 }

-- of a command: of each fault where it is found
pub faults_proper : (r : Row) (h : ℕ) (own : List ℕ) → OfFaults (Proper (3 + length own)) (faults r h own)
unfolding undefined
faults_proper r h own =
    of_faults (Proper (3 + length own)) (λ n w b near. other_proper (3 + length own) n w b (omega arith)) r h own
    (λ k m u e. record { number = refl; near = omega arith; bit = e })

pub values_proper : (id h : ℕ) (own : List ℕ) → OfFaults (Proper 3) (value_faults id h own)
values_proper = of_values (Proper 3) (other_proper 3)

-- of a list and of pairs

abbrev pub RefusesList : ℕ → Parsed → Type 0
RefusesList m = OfParsed (Proper m)

pub proper : (l : List ℕ) → OfRefusals (Proper 4098) l
proper l = record { others = other_proper 4098; six = λ p b near lowest. record { number = refl; near = near; bit = lt-ltb b 32 lowest.in_word } }

pub parse-refuses : (image ws : List ℕ) → RefusesList 4098 (parse image ws)
parse-refuses image ws = of_parse (Proper 4098) ws (proper ws) image

pub pairs_refuses : (image ps : List ℕ) → RefusesList 4098 (parse_pairs image ps)
pairs_refuses image ps = of_pairs (Proper 4098) image ps (proper (values ps))
