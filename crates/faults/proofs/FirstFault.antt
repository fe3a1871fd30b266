-- The first fault of a command, from the masks of its row.
use Prim.Native.Nat.{ℕ, ◌≤◌}
use native.Mathlib.Omega.{arith}
use mathlib.Core.Path.{◌≡◌, refl, ap, sym, ◌∙◌}
use mathlib.Core.Bool.{Bool, true, false, cond, not, ◌||◌}
use mathlib.Core.List.{List, [], ◌∷◌}
use lib.Dec.{eqb}
use borrow.Author.Tests.{ne_eqb}
use lib.ListN.{length, take}
use Rattle.std.specs.Prelude.{Option, Some, None, is_some}
use Rattle.rules.specs.declared.Reason.{Reason}
use Rattle.rules.specs.declared.Refusal.{Refusal as Returned}
use Rattle.rules.specs.Returned.{number_of}
use Rattle.rules.specs.Verdict.{Refusal}
use Rattle.rules.specs.Word.{undefined}
use Rattle.rules.specs.Table.{Row}
use Rattle.rules.specs.Values.{Fault, first_fault, undefined_faults, value_faults, faults}
use Rattle.rules.specs.Decode.{Decoded, bad}
use Rattle.theory.proofs.Numbers.{Proper, not-zero, values_proper}
use Rattle.theory.proofs.Refusals.{OfFaults}
use Rattle.table.specs.declared.Group.{Group}
use Rattle.table.specs.Ids.{group_id}
use Rattle.table.specs.Tables.{more, row_number, row_at, mask_of, mask_at}
use Rattle.table.proofs.Tables.{Known, ruled}
use Rattle.values.specs.declared.Faults.{Faults}
use Rattle.values.specs.First.{first_refusal, found, no_refusal, refusal_or_none, clash_of, first_of}
use Rattle.values.specs.Broken.{load_broken, primitive_broken}
use Rattle.values.proofs.Broken.{load-first, primitive_first}
use Rattle.faults.specs.Faults.{unless_defined, first_undefined, own, any_undefined, value_fault}

no_case : {A : Type 0} (a b c d : Bool) (w x y z e : A) → ((a || b) || (c || d)) ≡ false → cond a w (cond b x (cond c y (cond d z e))) ≡ e
no_case true _ _ _ w x y z e f = let u : ◌≡◌ {A = Bool} true false = f in cc
no_case false true _ _ w x y z e f = let u : ◌≡◌ {A = Bool} true false = f in cc
no_case false false true _ w x y z e f = let u : ◌≡◌ {A = Bool} true false = f in cc
no_case false false false true w x y z e f = let u : ◌≡◌ {A = Bool} true false = f in cc
no_case false false false false w x y z e f = refl

unruled_values : (id h : ℕ) (ws : List ℕ) → ruled id ≡ false → value_faults id h ws ≡ []
unfolding value_faults
unruled_values id h ws e = no_case (eqb id 0x40) (eqb id 0x48) (eqb id 0x84) (eqb id 0x88) _ _ _ _ [] e

-- the faults of a group
module _ (r : Row) (h a b c : ℕ) (m₀ m₁ m₂ m₃ : ℕ) where
  by_masks : (more : List ℕ) → r.more ≡ more → (m₀ ∷ m₁ ∷ m₂ ∷ m₃ ∷ []) ≡ (mask_of r 0 ∷ mask_of r 1 ∷ mask_of r 2 ∷ mask_of r 3 ∷ []) → length more ≡ 3
      → unless_defined 0 h m₀ (unless_defined 1 a m₁ (unless_defined 2 b m₂ (unless_defined 3 c m₃ (first_refusal (value_faults r.id h (a ∷ b ∷ c ∷ []))))))
      ≡ first_refusal (faults r h (take (length r.more) (a ∷ b ∷ c ∷ [])))
  unfolding faults
  by_masks [] em e l = absurd (omega arith)
  by_masks (x ∷ []) em e l = absurd (omega arith)
  by_masks (x ∷ y ∷ []) em e l = absurd (omega arith)
  by_masks (x ∷ y ∷ z ∷ []) em e l =
      let e₀ : m₀ ≡ r.mask = cc in
      let e₁ : m₁ ≡ x = cc in
      let e₂ : m₂ ≡ y = cc in
      let e₃ : m₃ ≡ z = cc in
      rw (em, e₀, e₁, e₂, e₃)
  by_masks (x ∷ y ∷ z ∷ w ∷ rest) em e l = absurd (omega arith)

-- undefined bits under the masks of an id's row, then the rules on values: the first fault of a group
pub fault-is : (id : ℕ) (g : Group) → Known id → group_id id ≡ true
    → first_undefined (row_number id) g (value_fault id g) ≡ first_refusal (faults (row_at id) g.header (own (row_at id) g))
fault-is id g k t =
    ap (λ (j : ℕ). first_undefined (row_number id) g (value_fault j g)) (sym k.own-id)
    ∙ by_masks (row_at id) g.header g.second g.third g.fourth _ _ _ _ (row_at id).more refl k.masks (k.length_more ∙ ap (λ (b : Bool). cond b 3 0) t)

-- a fault among four, or a later one
found_first : (a b c d : Bool) (p q r s next : Refusal) → found p ≡ true → found q ≡ true → found r ≡ true → found s ≡ true
    → ((a || b) || (c || d)) || found next ≡ found (cond a p (cond b q (cond c r (cond d s next))))
found_first true _ _ _ p q r s next e f g h = sym e
found_first false true _ _ p q r s next e f g h = sym f
found_first false false true _ p q r s next e f g h = sym g
found_first false false false true p q r s next e f g h = sym h
found_first false false false false p q r s next e f g h = refl

some_case : (a b c d : Bool) (p q r s x y : Refusal) → ((a || b) || (c || d)) ≡ true
    → cond a p (cond b q (cond c r (cond d s x))) ≡ cond a p (cond b q (cond c r (cond d s y)))
some_case true _ _ _ p q r s x y f = refl
some_case false true _ _ p q r s x y f = refl
some_case false false true _ p q r s x y f = refl
some_case false false false true p q r s x y f = refl
some_case false false false false p q r s x y f = let u : ◌≡◌ {A = Bool} false true = f in cc

near_case : (a b c d : Bool) (p q r s x : Refusal) → p.word ≤ 3 → q.word ≤ 3 → r.word ≤ 3 → s.word ≤ 3 → x.word ≤ 3
    → (cond a p (cond b q (cond c r (cond d s x)))).word ≤ 3
near_case true _ _ _ p q r s x e f g h i = e
near_case false true _ _ p q r s x e f g h i = f
near_case false false true _ p q r s x e f g h i = g
near_case false false false true p q r s x e f g h i = h
near_case false false false false p q r s x e f g h i = i

-- the words of a group against the masks of a row: one has an undefined bit, or none
module _ (n : ℕ) (g : Group) where
  pub undefined-found : any_undefined n g ≡ true → found (first_undefined n g no_refusal) ≡ true
  undefined-found t =
      sym (found_first (undefined g.header (mask_at n 0)) (undefined g.second (mask_at n 1)) (undefined g.third (mask_at n 2)) (undefined g.fourth (mask_at n 3))
      _ _ _ _ no_refusal refl refl refl refl) ∙ ap (λ (b : Bool). b || false) t

  pub undefined-first : any_undefined n g ≡ true → (next : Refusal) → first_undefined n g next ≡ first_undefined n g no_refusal
  undefined-first t next =
      some_case (undefined g.header (mask_at n 0)) (undefined g.second (mask_at n 1)) (undefined g.third (mask_at n 2)) (undefined g.fourth (mask_at n 3))
      _ _ _ _ next no_refusal t

  pub defined_next : any_undefined n g ≡ false → (next : Refusal) → first_undefined n g next ≡ next
  defined_next t next =
      no_case (undefined g.header (mask_at n 0)) (undefined g.second (mask_at n 1)) (undefined g.third (mask_at n 2)) (undefined g.fourth (mask_at n 3))
      _ _ _ _ next t

  pub undefined_near : (f : Refusal) → f ≡ first_undefined n g no_refusal → f.word ≤ 3
  undefined_near f e =
      rw e (near_case (undefined g.header (mask_at n 0)) (undefined g.second (mask_at n 1)) (undefined g.third (mask_at n 2)) (undefined g.fourth (mask_at n 3))
      _ _ _ _ no_refusal (omega arith) (omega arith) (omega arith) (omega arith) (omega arith))

-- each reason has a number
numbered_reason : (r : Reason) → not (eqb (number_of r) 0) ≡ true
numbered_reason r = ap not {x = eqb (number_of r) 0} {y = false} (grind arith)

-- a refusal is found exactly where one is returned
pub some-found : (o : Option Returned) → is_some o ≡ found (refusal_or_none o)
some-found None = refl
some-found (Some f) = sym (numbered_reason f.reason)

clash_found : (o : Option Reason) → is_some o ≡ found (clash_of o)
clash_found None = refl
clash_found (Some r) = sym (numbered_reason r)

pub any-is : (f : Faults) → ((f.first || f.second) || (f.third || f.fourth)) || is_some f.clash ≡ found (first_of f)
any-is f = ap (λ (b : Bool). ((f.first || f.second) || (f.third || f.fourth)) || b) (clash_found f.clash) ∙ found_first f.first f.second f.third f.fourth _ _ _ _ (clash_of f.clash) refl refl refl refl

no_words : (i : ℕ) (ms : List ℕ) → undefined_faults i ms [] ≡ []
no_words i [] = refl
no_words i (m ∷ ms) = refl

-- a command of one word has one rule
pub single-fault : (id h : ℕ) → Known id → group_id id ≡ false
    → first_refusal (faults (row_at id) h []) ≡ unless_defined 0 h (mask_at (row_number id) 0) no_refusal
unfolding faults
single-fault id h k f =
    let m : mask_at (row_number id) 0 ≡ (row_at id).mask = let q = k.masks in cc in
    rw (m, no_words 1 (row_at id).more, unruled_values (row_at id).id h [] (ap ruled k.own-id ∙ k.one_word f))

-- the first fault, and what stands behind the faults
pub first-fault : (m : ℕ) (fs : List Fault) (d : Decoded) → OfFaults (Proper m) fs
    → first_fault bad fs d ≡ cond (found (first_refusal fs)) (bad (first_refusal fs)) d
first-fault m [] d p = refl
first-fault m (f ∷ fs) d p =
    (elim f.found as (λ t. f.found ≡ t → cond t (bad f.why) (first_fault bad fs d)
    ≡ cond (found (cond t f.why (first_refusal fs))) (bad (cond t f.why (first_refusal fs))) d) [
      | true ↦ λ e. ap (λ (b : Bool). cond (not b) (bad f.why) d) (sym (ne_eqb f.why.number 0 (not-zero (p.0 e))))
      | false ↦ λ e. first-fault m fs d p.1
    ]) refl

-- a rule on values is broken near the command's first word
first_near : (m : ℕ) (fs : List Fault) → OfFaults (Proper m) fs → (first_refusal fs).word ≤ m
first_near m [] p = omega arith
first_near m (f ∷ fs) p =
    (elim f.found as (λ t. f.found ≡ t → (cond t f.why (first_refusal fs)).word ≤ m) [
      | true ↦ λ e. (p.0 e).near
      | false ↦ λ e. first_near m fs p.1
    ]) refl

pub value_near : (id : ℕ) (g : Group) (f : Refusal) → f ≡ value_fault id g → f.word ≤ 3
value_near id g f e = rw e (first_near 3 (value_faults id g.header (more g)) (values_proper id g.header (more g)))

-- a load, or a primitive, breaks a rule on values
module _ (g : Group) {f : Faults} {b : Bool} (eb : b ≡ found (first_of f)) where
  pub load_found : f ≡ load_broken g → b ≡ found (value_fault 0x40 g)
  unfolding value_faults
  load_found ef = eb ∙ ap found (ap first_of ef ∙ load-first g)

  pub primitive_found : f ≡ primitive_broken g → b ≡ found (value_fault 0x48 g)
  unfolding value_faults
  primitive_found ef = eb ∙ ap found (ap first_of ef ∙ primitive_first g)
