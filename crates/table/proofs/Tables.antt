-- The rows and the tests on ids hold document 01's table: one test over all ids, computed once, and the facts read off it.
use Prim.Native.Nat.{ℕ, zero, suc, ◌+◌, ◌*◌, ◌/◌, ◌%◌, ◌≤◌, ◌<◌}
use native.Mathlib.Nat.{add-zero, zero-add, add-suc, suc-add, le_of_suc-le-suc, not-suc-le-zero}
use native.Mathlib.Omega.{arith}
use mathlib.Core.Path.{◌≡◌, refl, ap, sym, ◌∙◌}
use mathlib.Core.Bool.{Bool, true, false, cond, not, ◌&&◌, ◌||◌}
use mathlib.Core.List.{List, [], ◌∷◌}
use mathlib.Core.Option.{Option, none, some}
use lib.Dec.{eqb, leb, ltb}
use borrow.Author.Tests.{eqb-true, ltb-true, not-true}
use lib.ListN.{length, get_or}
use Rattle.rules.specs.Table.{Row, table, row_of, is_setting, is_begin, is_base}
use Rattle.rules.specs.Form.{equal}
use Rattle.theory.proofs.Bools.{and_left, and_right}
use Rattle.theory.proofs.Image.{equal-true}
use Rattle.table.specs.Ids.{begin_id, kept_id, setting_id, group_id, setting_kind, holds, in_set, group_settings, groups, kept_ids}
use Rattle.table.specs.Tables.{begin_row, base_row, row_count, setting_row, tabulate, row_number, row_table, or_unknown, row_at, masks_of, mask_at, row_masks, mask_table}

-- ---- a table of a rule's values, and a test at each of its numbers

tabulate-from : (n i : ℕ) (f : ℕ → ℕ) (k : ℕ) → k < n → get_or (tabulate n i f) k 0 ≡ f (i + k)
tabulate-from zero i f k h = absurd (not-suc-le-zero h)
tabulate-from (suc n) i f zero h = ap f (sym (add-zero i))
tabulate-from (suc n) i f (suc k) h = tabulate-from n (suc i) f k (le_of_suc-le-suc h) ∙ ap f (suc-add i k ∙ sym (add-suc i k))

abbrev pub every : ℕ → ℕ → (ℕ → Bool) → Bool
every zero i f = true
every (suc n) i f = f i && every n (suc i) f

pub every-from : (n i : ℕ) (f : ℕ → Bool) → every n i f ≡ true → (k : ℕ) → k < n → f (i + k) ≡ true
every-from zero i f t k h = absurd (not-suc-le-zero h)
every-from (suc n) i f t zero h = ap f (add-zero i) ∙ and_left (f i) (every n (suc i) f) t
every-from (suc n) i f t (suc k) h =
    ap f (add-suc i k ∙ sym (suc-add i k)) ∙ every-from n (suc i) f (and_right (f i) (every n (suc i) f) t) k (le_of_suc-le-suc h)

-- ---- the test

abbrev pub same : Bool → Bool → Bool
same true b = b
same false b = not b

-- an id with rules on its values
abbrev pub ruled : ℕ → Bool
ruled id = (eqb id 0x40 || eqb id 0x48) || (eqb id 0x84 || eqb id 0x88)

-- the tests of the code: on the id alone, and on the id of a known command with its row
abbrev pub begin_test : ℕ → Bool
begin_test id = (eqb id 0x08 || eqb id 0x0C) || (eqb id 0x10 || eqb id 0x14)

abbrev pub kept_test : ℕ → Bool
kept_test id = ltb id 64 && holds kept_ids (id % 64)

abbrev pub kind_test : ℕ → ℕ
kind_test id = cond (in_set group_settings id) 2 (cond ((eqb id 0x02 || eqb id 0x26) || (eqb id 0x30 || eqb id 0x31)) 1 0)

abbrev pub known_group_test : ℕ → ℕ → Bool
known_group_test id row = leb 0x40 id || eqb row begin_row

-- tests, all of which hold
abbrev all_of : List Bool → Bool
all_of [] = true
all_of (b ∷ bs) = b && all_of bs

abbrev AllOf : List Bool → Type 0
AllOf [] = Unit {0}
AllOf (b ∷ bs) = (b ≡ true) × AllOf bs

all_of_lem : (bs : List Bool) → all_of bs ≡ true → AllOf bs
all_of_lem [] e = tt
all_of_lem (b ∷ bs) e = (and_left b (all_of bs) e, all_of_lem bs (and_right b (all_of bs) e))

-- of any id
id_tests : ℕ → List Bool
id_tests id = same (begin_id id) (begin_test id) ∷ same (kept_id id) (kept_test id) ∷ eqb (setting_kind id) (kind_test id) ∷ same (group_id id) (in_set groups id) ∷ []

-- of a known id: its row is one of them, with the row's masks and its size; four words where values have rules; its kind by its
-- row; a BEGIN has four words, and a surface base one
row_tests : ℕ → Row → List Bool
row_tests id r =
    eqb r.id id
    ∷ ltb (row_number id) row_count
    ∷ equal (row_masks (row_number id)) (masks_of r)
    ∷ eqb (length r.more) (cond (group_id id) 3 0)
    ∷ (not (ruled id) || group_id id)
    ∷ same (group_id id) (known_group_test id (row_number id))
    ∷ same (is_setting r.kind) (setting_row (group_id id) (row_number id))
    ∷ same (is_begin r.kind) (eqb (row_number id) begin_row)
    ∷ same (is_base id) (eqb (row_number id) base_row)
    ∷ not (cond (group_id id) (is_base id) (is_begin r.kind))
    ∷ []

row_fits : ℕ → Option Row → Bool
row_fits id none = eqb (row_number id) row_count
row_fits id (some r) = all_of (row_tests id r)

fits_at : ℕ → Bool
fits_at id = all_of (id_tests id) && row_fits id (row_of id)

all_fit : every 256 0 fits_at ≡ true
unfolding fits_at id_tests row_tests row_fits row_number row_of table mask_at is_base begin_id setting_kind setting_id group_id kept_id kept_ids group_settings groups
all_fit = refl

-- ---- what it says

pub record Known (id : ℕ) : Type 0 where
  pub small : row_number id < row_count
  pub found : row_of id ≡ some (row_at id)
  pub own-id : (row_at id).id ≡ id
  pub masks : row_masks (row_number id) ≡ masks_of (row_at id)
  pub length_more : length (row_at id).more ≡ cond (group_id id) 3 0
  pub one_word : group_id id ≡ false → ruled id ≡ false
  pub group : group_id id ≡ known_group_test id (row_number id)
  pub setting-row : is_setting (row_at id).kind ≡ setting_row (group_id id) (row_number id)
  pub begins : is_begin (row_at id).kind ≡ eqb (row_number id) begin_row
  pub base : is_base id ≡ eqb (row_number id) base_row
  pub apart : cond (group_id id) (is_base id) (is_begin (row_at id).kind) ≡ false

pub same_true : (a b : Bool) → same a b ≡ true → a ≡ b
same_true true b e = sym e
same_true false b e = sym (not-true b e)

unruled : (a b : Bool) → (not a || b) ≡ true → b ≡ false → a ≡ false
unruled true b t e = sym t ∙ e
unruled false b t e = refl

module _ (id : ℕ) where
  row-known : (r : Row) → row_of id ≡ some r → row_fits id (some r) ≡ true → Known id
  unfolding row_fits row_tests row_at
  row-known r e t₀ =
      let is : or_unknown (row_of id) ≡ r = ap or_unknown e in
      let t = all_of_lem (row_tests id r) t₀ in
      let u = t.1.1.1.1 in
      record {
        found = e ∙ ap some (sym is);
        own-id = ap (λ (x : Row). x.id) is ∙ eqb-true _ _ t.0;
        small = ltb-true _ _ t.1.0;
        masks = equal-true _ _ t.1.1.0 ∙ ap (λ (x : Row). masks_of x) (sym is);
        length_more = ap (λ (x : Row). length x.more) is ∙ eqb-true _ _ t.1.1.1.0;
        one_word = unruled _ _ u.0;
        group = same_true _ _ u.1.0;
        setting-row = ap (λ (x : Row). is_setting x.kind) is ∙ same_true _ _ u.1.1.0;
        begins = ap (λ (x : Row). is_begin x.kind) is ∙ same_true _ _ u.1.1.1.0;
        base = same_true _ _ u.1.1.1.1.0;
        apart = ap (λ (x : Row). cond (group_id id) (is_base id) (is_begin x.kind)) is ∙ not-true _ u.1.1.1.1.1.0;
      }

  by_row : (o : Option Row) → row_of id ≡ o → row_fits id o ≡ true → row_number id < row_count → Known id
  unfolding row_fits
  by_row none e t h = let z = eqb-true (row_number id) row_count t in absurd (omega arith)
  by_row (some r) e t h = row-known r e t

  past_rows : (o : Option Row) → row_of id ≡ o → row_fits id o ≡ true → row_count ≤ row_number id → row_of id ≡ none
  past_rows none e t h = e
  past_rows (some r) e t h = let k = row-known r e t in absurd (omega (arith, k.small))

  module _ (h : id < 256) where
    test : (all_of (id_tests id) && row_fits id (row_of id)) ≡ true
    unfolding fits_at
    test = ap fits_at (sym (zero-add id)) ∙ every-from 256 0 fits_at all_fit id h

    row_test : row_fits id (row_of id) ≡ true
    row_test = and_right (all_of (id_tests id)) _ test

    pub known : row_number id < row_count → Known id
    known k = by_row (row_of id) refl row_test k

    pub known-row : (r : Row) → row_of id ≡ some r → Known id
    known-row r e = row-known r e (ap (row_fits id) (sym e) ∙ row_test)

    -- one that has none
    pub unknown-row : row_count ≤ row_number id → row_of id ≡ none
    unknown-row k = past_rows (row_of id) refl row_test k

    pub row_at_lem : (l : List ℕ) → l ≡ row_table → get_or l id 0 ≡ row_number id
    unfolding row_table
    row_at_lem l e = ap (λ (m : List ℕ). get_or m id 0) e ∙ tabulate-from 256 0 row_number id h ∙ ap row_number (zero-add id)

    -- every id, known or not
    tests : AllOf (id_tests id)
    tests = all_of_lem (id_tests id) (and_left (all_of (id_tests id)) _ test)

    pub begin_is : begin_test id ≡ begin_id id
    unfolding id_tests
    begin_is = sym (same_true _ _ tests.0)

    pub kept-is : kept_test id ≡ kept_id id
    unfolding id_tests
    kept-is = sym (same_true _ _ tests.1.0)

    pub kind-is : kind_test id ≡ setting_kind id
    unfolding id_tests
    kind-is = sym (eqb-true _ _ tests.1.1.0)

    pub group-is : in_set groups id ≡ group_id id
    unfolding id_tests
    group-is = sym (same_true _ _ tests.1.1.1.0)

pub row_is : (id : ℕ) (r : Row) → row_of id ≡ some r → row_at id ≡ r
unfolding row_at
row_is id r e = ap or_unknown e

-- the kinds of the set
kind_of : (s g : Bool) → not (eqb (cond s (cond g 2 1) 0) 0) ≡ s
kind_of true true = refl
kind_of true false = refl
kind_of false g = refl

pub setting-is : (id : ℕ) → not (eqb (setting_kind id) 0) ≡ setting_id id
unfolding setting_kind
setting-is id = kind_of (setting_id id) (group_id id)

-- the masks lent, by row and word
pub mask_is : (masks : List ℕ) (row word : ℕ) → masks ≡ mask_table → row < row_count → word < 4 → get_or masks (row * 4 + word) 0 ≡ mask_at row word
unfolding mask_table
mask_is masks row word e h w =
    let i : ℕ = row * 4 + word in
    let at : (0 + i) / 4 ≡ row = omega arith in
    let of : (0 + i) % 4 ≡ word = omega arith in
    ap (λ (ms : List ℕ). get_or ms i 0) e ∙ tabulate-from (row_count * 4) 0 (λ k. mask_at (k / 4) (k % 4)) i (omega arith) ∙ rw (at, of)
