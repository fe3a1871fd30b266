-- The first refusal of what a group breaks is that of the rules' own faults.
use Prim.Native.Nat.{ℕ, ◌+◌, ◌<◌}
use native.Mathlib.Nat.{zero-add, mod-lt}
use native.Mathlib.Omega.{arith}
use mathlib.Core.Path.{◌≡◌, refl, ap, sym, ◌∙◌}
use mathlib.Core.Bool.{Bool, true, false, cond, not, ◌&&◌, ◌||◌}
use lib.Dec.{eqb, leb, ltb}
use Rattle.std.specs.Prelude.{Option, Some}
use Rattle.std.specs.Bool.{then_some}
use Rattle.std.specs.Option.{option_or}
use Rattle.rules.specs.declared.Reason.{Reason}
use Rattle.rules.specs.declared.Reason.TheVariants.{PageMaximum, PageMinimum, RasterBits, FloatBit, PlaneRange}
use Rattle.rules.specs.Verdict.{Refusal}
use Rattle.rules.specs.Word.{bits}
use Rattle.rules.specs.Values.{refusal, load_faults, primitive_faults, page_limit, clip_faults, raster_faults}
use Rattle.theory.proofs.Bools.{and_left, and_right}
use Rattle.table.specs.declared.Group.{Group}
use Rattle.table.proofs.Tables.{every-from, same, same_true}
use Rattle.values.specs.First.{illegal, no_refusal, first_refusal, clash_of, first_of}
use Rattle.values.specs.Broken.{load_broken, primitive_broken, clip_broken, raster_broken}

-- "3, 4, 6 and 7 are illegal", and of the others two codes, 0 and 5, have no third and fourth words: as the code asks it
code_test : ℕ → Bool
code_test code =
    let illegal = (eqb code 3 || eqb code 4) || leb 6 code in
    same (ltb 2 code && not (eqb code 5)) illegal && (illegal || same (not (eqb code 1) && not (eqb code 2)) (eqb code 0 || eqb code 5))

code_test_lem : (code : ℕ) → code < 8 → code_test code ≡ true
unfolding code_test
code_test_lem code h = ap code_test (sym (zero-add code)) ∙ every-from 8 0 code_test refl code h

-- an illegal code is refused in the first word, so that of it the third and fourth words do not matter
legal_bare : (i b' b s t f : Bool) (next : Refusal) → (i || same b' b) ≡ true → illegal i s (b' && t) (b' && f) next ≡ illegal i s (b && t) (b && f) next
legal_bare true b' b s t f next e = refl
legal_bare false b' b s t f next e = ap (λ (x : Bool). illegal false s (x && t) (x && f) next) (same_true b' b e)

load-codes : (code : ℕ) → code < 8 → (s t f : Bool) (next : Refusal)
    → illegal (ltb 2 code && not (eqb code 5)) s ((not (eqb code 1) && not (eqb code 2)) && t) ((not (eqb code 1) && not (eqb code 2)) && f) next
    ≡ illegal ((eqb code 3 || eqb code 4) || leb 6 code) s ((eqb code 0 || eqb code 5) && t) ((eqb code 0 || eqb code 5) && f) next
unfolding code_test
load-codes code h s t f next =
    let b' : Bool = not (eqb code 1) && not (eqb code 2) in
    let i : Bool = (eqb code 3 || eqb code 4) || leb 6 code in
    let first : (ltb 2 code && not (eqb code 5)) ≡ i = same_true (ltb 2 code && not (eqb code 5)) i (and_left (same (ltb 2 code && not (eqb code 5)) i) _ (code_test_lem code h)) in
    ap (λ (x : Bool). illegal x s (b' && t) (b' && f) next) first
    ∙ legal_bare i b' (eqb code 0 || eqb code 5) s t f next (and_right (same (ltb 2 code && not (eqb code 5)) i) _ (code_test_lem code h))

-- a clash where it is found, or the next
clash-is : (b : Bool) (r : Reason) (o : Option Reason) → clash_of (option_or (then_some b r) o) ≡ cond b (clash_of (Some r)) (clash_of o)
clash-is true r o = refl
clash-is false r o = refl

-- the last one
clash_or_none : (b : Bool) (r : Reason) → clash_of (then_some b r) ≡ cond b (clash_of (Some r)) no_refusal
clash_or_none true r = refl
clash_or_none false r = refl

module _ (g : Group) where
  pub load-first : first_of (load_broken g) ≡ first_refusal (load_faults g.header g.second g.third g.fourth)
  unfolding load_broken
  load-first =
      let code : ℕ = bits g.header 20 3 in
      let planes : Bool = eqb code 5 && ltb 8 (bits g.header 10 9 + bits g.header 0 9) in
      let floats : Bool = not (eqb code 5) && eqb (bits g.header 23 1) 1 in
      rw (clash-is floats FloatBit (then_some planes PlaneRange), clash_or_none planes PlaneRange)
      (load-codes code (mod-lt _ (omega arith)) (not (eqb code 2) && not (eqb g.second 0)) (not (eqb g.third 0)) (not (eqb g.fourth 0))
      (cond floats (refusal 18 0) (cond planes (refusal 19 0) no_refusal)))

  pub primitive_first : first_of (primitive_broken g) ≡ first_refusal (primitive_faults g.header g.second g.third g.fourth)
  unfolding primitive_broken
  primitive_first = refl

  pub clip_first : first_of (clip_broken g) ≡ first_refusal (clip_faults g.second g.third)
  unfolding clip_broken
  clip_first =
      let most : ℕ = bits g.third 28 4 in
      let least : ℕ = bits g.third 12 4 in
      let under : Bool = not (eqb least 0 || ltb least (most + 1)) in
      rw (clash-is (ltb (page_limit (bits g.second 28 2)) most) PageMaximum (then_some under PageMinimum), clash_or_none under PageMinimum)

  pub raster_first : first_of (raster_broken g) ≡ first_refusal (raster_faults g.header)
  unfolding raster_broken
  raster_first = clash_or_none (eqb (bits g.header 22 1) 0 && eqb (bits g.header 14 1) 1) RasterBits
