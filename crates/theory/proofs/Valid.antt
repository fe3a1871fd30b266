-- A command passes refusals 3 to 9 exactly where it is valid.
use Prim.Native.Nat.{ℕ, suc, ◌+◌, ◌^◌, ◌≤◌, ◌<◌}
use native.Mathlib.Omega.{arith}
use mathlib.Core.Path.{◌≡◌, refl, ap, sym, ◌∙◌, subst}
use mathlib.Core.Bool.{Bool, true, false, cond}
use mathlib.Core.List.{List, [], ◌∷◌, ◌++◌}
use mathlib.Core.Option.{some}
use lib.Dec.{ltb}
use lib.Pow.{high, low}
use borrow.Author.Tests.{ltb-false, le-ltb}
use lib.ListN.{length, take, length-append}
use lib.Seq.{take-take, length-take-le, take-append-le, take-append_seam}
use Rattle.rules.specs.Word.{first_word}
use Rattle.rules.specs.Table.{setting, Row, row_of}
use Rattle.rules.specs.Command.{Command, payload, own_size, rest_size, command_size}
use Rattle.rules.specs.Verdict.{Refusal}
use Rattle.rules.specs.Values.{refusal, Fault, first_fault, faults}
use Rattle.rules.specs.Decode.{Decoded, bad, good, decode_row}
use Rattle.rules.specs.Valid.{NoFault, Valid}
use Rattle.theory.proofs.Rows.{Setting, setting-payload}

cond-else : {A : Type 0} (b : Bool) (x d y : A) → (x ≡ y → ⊥) → cond b x d ≡ y → (b ≡ false) × (d ≡ y)
cond-else true x d y n e = absurd (n e)
cond-else false x d y n e = (refl, e)

-- where no refusal is told, there is no fault
pub none_told : {A : Type 0} (refuse : Refusal → A) (y : A) → ((f : Refusal) → refuse f ≡ y → ⊥) → (fs : List Fault) (d : A)
    → first_fault refuse fs d ≡ y → (d ≡ y) × NoFault fs
none_told refuse y n [] d e = (e, tt)
none_told refuse y n (f ∷ fs) d e =
    let p = cond-else f.found (refuse f.why) (first_fault refuse fs d) y (n f.why) e in
    let ih = none_told refuse y n fs d p.1 in
    (ih.0, (p.0, ih.1))

pub no_faults : {A : Type 0} (refuse : Refusal → A) (fs : List Fault) (d : A) → NoFault fs → first_fault refuse fs d ≡ d
no_faults refuse [] d n = refl
no_faults refuse (f ∷ fs) d n = rw n.0 (no_faults refuse fs d n.1)

-- what holds of each refusal and of what follows holds of the first fault
pub first_holds : {A : Type 0} (Q : A → Type 0) (refuse : Refusal → A) → ((f : Refusal) → Q (refuse f)) → (fs : List Fault) (d : A) → Q d → Q (first_fault refuse fs d)
first_holds Q refuse h [] d q = q
first_holds Q refuse h (f ∷ fs) d q =
    elim f.found as (λ t. Q (cond t (refuse f.why) (first_fault refuse fs d))) [ true ↦ h f.why | false ↦ first_holds Q refuse h fs d q ]

-- told in another way
pub first-told : {A B : Type 0} (g : A → B) (refuse : Refusal → A) (fs : List Fault) (d : A) → g (first_fault refuse fs d) ≡ first_fault (λ f. g (refuse f)) fs (g d)
first-told g refuse [] d = refl
first-told g refuse (f ∷ fs) d =
    elim f.found as (λ t. g (cond t (refuse f.why) (first_fault refuse fs d)) ≡ cond t (g (refuse f.why)) (first_fault (λ x. g (refuse x)) fs (g d))) [
      | true ↦ refl
      | false ↦ first-told g refuse fs d
    ]

-- only the own words say how many there are
pub size_cong : (r : Row) (h : ℕ) (us ws : List ℕ) → take (own_size r h) us ≡ take (own_size r h) ws → rest_size r h us ≡ rest_size r h ws
size_cong r h us ws e = ap (λ (own : List ℕ). own_size r h + payload r.id h own) e

-- the command of a row with a header, before some words
abbrev pub taken : Row → ℕ → List ℕ → Command
taken r h ws = record { row = r; header = h; rest = take (rest_size r h ws) ws }

abbrev whole : Row → ℕ → List ℕ → Decoded
whole r h ws = cond (ltb (length ws) (rest_size r h ws)) (bad (refusal 9 0)) (good (taken r h ws))

pub record Passed (r : Row) (h : ℕ) (ws : List ℕ) (c : Command) : Type 0 where
  pub enough : rest_size r h ws ≤ length ws
  pub is : taken r h ws ≡ c
  pub no_fault : NoFault (faults r h (take (own_size r h) ws))

pub passed : (r : Row) (h : ℕ) (ws : List ℕ) (c : Command) → decode_row r h ws ≡ good c → Passed r h ws c
unfolding decode_row
passed r h ws c e =
    let p = cond-else (ltb (length ws) (own_size r h)) (bad (refusal 5 0)) (first_fault bad (faults r h (take (own_size r h) ws)) (whole r h ws)) (good c) (no_good (refusal 5 0)) e in
    let q = none_told bad (good c) no_good (faults r h (take (own_size r h) ws)) (whole r h ws) p.1 in
    let t = cond-else (ltb (length ws) (rest_size r h ws)) (bad (refusal 9 0)) (good (taken r h ws)) (good c) (no_good (refusal 9 0)) q.0 in
    record { enough = ltb-false _ _ t.0; is = cc; no_fault = q.1 }
  where
    no_good : (f : Refusal) → bad f ≡ good c → ⊥
    no_good f x = let z : ◌≡◌ {A = ℕ} 0 1 = cc in omega arith

passes : (r : Row) (h : ℕ) (ws : List ℕ) → rest_size r h ws ≤ length ws → NoFault (faults r h (take (own_size r h) ws)) → decode_row r h ws ≡ good (taken r h ws)
unfolding decode_row
passes r h ws enough n =
    let a : ltb (length ws) (own_size r h) ≡ false = le-ltb (length ws) (own_size r h) (omega arith) in
    let b : ltb (length ws) (rest_size r h ws) ≡ false = le-ltb (length ws) (rest_size r h ws) enough in
    rw a (no_faults bad (faults r h (take (own_size r h) ws)) (whole r h ws) n ∙ rw b)

module _ (r : Row) (h : ℕ) (ws : List ℕ) (c : Command) (p : Passed r h ws c) where
  pub passed_length : length c.rest ≡ rest_size r h ws
  passed_length = ap (λ (x : Command). length x.rest) (sym p.is) ∙ length-take-le (rest_size r h ws) ws p.enough

  -- what passes is valid
  pub passed-valid : row_of r.id ≡ some r → h < 2 ^ 24 → Valid c
  passed-valid e s =
      let own : take (own_size r h) (take (rest_size r h ws) ws) ≡ take (own_size r h) ws = take-take (own_size r h) (rest_size r h ws) ws (omega arith) in
      subst Valid p.is (record {
        found = e;
        small = s;
        size = length-take-le (rest_size r h ws) ws p.enough ∙ sym (size_cong r h (take (rest_size r h ws) ws) ws own);
        no_fault = subst (λ (l : List ℕ). NoFault (faults r h l)) (sym own) p.no_fault;
      })

-- a valid command's words say how many they are, and pass, whatever follows them
module _ (c : Command) (tail : List ℕ) (v : Valid c) where
  own : take (own_size c.row c.header) (c.rest ++ tail) ≡ take (own_size c.row c.header) c.rest
  own = take-append-le (own_size c.row c.header) c.rest tail (omega (arith, v.size))

  pub valid-size : rest_size c.row c.header (c.rest ++ tail) ≡ length c.rest
  valid-size = size_cong c.row c.header (c.rest ++ tail) c.rest own ∙ sym v.size

  -- the first word says so
  pub size-words : command_size (first_word c.row.id c.header) (c.rest ++ tail) ≡ suc (length c.rest)
  unfolding command_size
  size-words = rw (high c.row.id 24 v.small, v.found, low c.row.id 24 v.small) (ap suc valid-size)

  pub valid-taken : taken c.row c.header (c.rest ++ tail) ≡ c
  valid-taken =
      ap (λ (l : List ℕ). record { row = c.row; header = c.header; rest = l })
      (ap (λ (n : ℕ). take n (c.rest ++ tail)) valid-size ∙ take-append_seam c.rest tail)

  pub valid_passes : decode_row c.row c.header (c.rest ++ tail) ≡ good c
  valid_passes =
      passes c.row c.header (c.rest ++ tail) (omega (arith, valid-size, length-append c.rest tail))
      (subst (λ (l : List ℕ). NoFault (faults c.row c.header l)) (sym own) v.no_fault)
      ∙ ap good valid-taken

-- a setting has just its words
pub setting-length : (c : Command) → Setting c.row → Valid c → length c.rest ≡ length c.row.more
setting-length c s v = omega (arith, v.size, setting-payload c.row s c.header (take (own_size c.row c.header) c.rest))

pub valid-setting : (c : Command) → Valid c → c.row.kind ≡ setting → Setting c.row
valid-setting c v k = record { found = v.found; kind = k }
