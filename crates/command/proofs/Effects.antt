-- The command at a position of an accepted list, by the kinds of the settings' set.
use Prim.Native.Nat.{ℕ, suc, ◌+◌, ◌≤◌}
use native.Mathlib.Nat.{add-zero}
use native.Mathlib.Omega.{arith}
use mathlib.Core.Path.{◌≡◌, refl, ap, ap₂, sym, ◌∙◌}
use mathlib.Core.Bool.{Bool, true, false, cond}
use mathlib.Core.List.{List, [], ◌∷◌}
use lib.ListN.{length, set, take, drop, length-drop}
use lib.Seq.{sets, length-take-le}
use Rattle.rules.specs.Table.{Kind, setting, plain, keeps, begins, row_of, is_setting, is_begin}
use Rattle.rules.specs.Command.{payload}
use Rattle.rules.specs.Image.{leave, apply}
use Rattle.theory.proofs.Rows.{Setting, setting-fits, setting-payload}
use Rattle.theory.proofs.Form.{is-setting}
use Rattle.table.specs.Ids.{of_row, begin_id, setting_id, keeps_header, kept_id, group_id, setting_kind}
use Rattle.table.specs.Tables.{more, row_at, group_at}
use Rattle.command.specs.View.{size_at}
use Rattle.table.proofs.Tables.{Known, known}
use Rattle.command.proofs.Sizes.{size-known, size-group, size-single}
use Rattle.command.proofs.Decoding.{group-words}
use Rattle.command.specs.Effects.{id_at, header_at, command_at, CommandAt, record_at}

-- ---- the kinds of the set

abbrev number : Bool → Bool → ℕ
number s g = cond s (cond g 2 1) 0

kind_two : (s g : Bool) → number s g ≡ 2 → (s ≡ true) × (g ≡ true)
kind_two true true e = (refl, refl)
kind_two true false e = absurd (omega arith)
kind_two false g e = absurd (omega arith)

kind-one : (s g : Bool) → number s g ≡ 1 → (s ≡ true) × (g ≡ false)
kind-one true true e = absurd (omega arith)
kind-one true false e = (refl, refl)
kind-one false g e = absurd (omega arith)

kind_none : (s g : Bool) → number s g ≡ 0 → s ≡ false
kind_none true true e = absurd (omega arith)
kind_none true false e = absurd (omega arith)
kind_none false g e = refl

kind-else : (s g : Bool) → (number s g ≡ 2 → ⊥) → (number s g ≡ 1 → ⊥) → number s g ≡ 0
kind-else true true p q = absurd (p refl)
kind-else true false p q = absurd (q refl)
kind-else false g p q = refl

pub no_kind : (id : ℕ) → (setting_kind id ≡ 2 → ⊥) → (setting_kind id ≡ 1 → ⊥) → setting_kind id ≡ 0
unfolding setting_kind
no_kind id p q = kind-else (setting_id id) (group_id id) p q

kind_member : (s g : Bool) → s ≡ true → (number s g ≡ 2 → ⊥) → number s g ≡ 1
kind_member true true e p = absurd (p refl)
kind_member true false e p = refl
kind_member false g e p = let z : ◌≡◌ {A = Bool} false true = e in let y : ◌≡◌ {A = ℕ} 0 1 = cc in absurd (omega arith)

-- by membership
pub single_member : (id : ℕ) → setting_id id ≡ true → (setting_kind id ≡ 2 → ⊥) → setting_kind id ≡ 1
unfolding setting_kind
single_member id e p = kind_member (setting_id id) (group_id id) e p

pub no_member : (id : ℕ) → setting_id id ≡ false → setting_kind id ≡ 0
unfolding setting_kind
no_member id e = rw e

-- ---- at a position

module _ (l : List ℕ) (at : ℕ) (h : CommandAt l at) where
  abbrev id : ℕ
  id = id_at l at

  k : Known id
  k = known id h.small h.known

  -- its own words are there
  group-inside : group_id (id_at l at) ≡ true → at + 4 ≤ length l
  group-inside g = omega (arith, h.inside, size-group l at id refl h.small g)

  kind_of_row : is_setting (row_at id).kind ≡ setting_id id
  unfolding setting_id
  kind_of_row = ap (of_row (λ r. is_setting r.kind)) (sym k.found)

  setting-row : setting_id id ≡ true → Setting (row_at id)
  setting-row e = record { found = ap row_of k.own-id ∙ k.found; kind = is-setting (row_at id).kind (kind_of_row ∙ e) }

  -- a setting's command, with its words after the first
  setting-is : (s : Setting (row_at id)) (image us : List ℕ) → length (row_at id).more ≡ length us → take (length us) (drop (suc at) l) ≡ us
      → apply (command_at l at) image ≡ sets image (id_at l at) (header_at l at ∷ us)
  unfolding command_at
  setting-is s image us n e =
      rw (setting-payload (row_at id) s (header_at l at) (take (length (row_at id).more) (drop (suc at) l)), s.kind, k.own-id)
      (ap (λ (x : List ℕ). sets image id (header_at l at ∷ x)) (ap (λ (m : ℕ). take m (drop (suc at) l)) (add-zero _ ∙ n) ∙ e))

  pub record IsGroup : Type 0 where
    pub size : size_at l at ≡ 4
    pub fits : id_at l at + 4 ≤ 256
    pub inside : at + 4 ≤ length l
    pub image-is : (image : List ℕ) → apply (command_at l at) image ≡ sets image (id_at l at) (header_at l at ∷ more (group_at l at))

  -- "Settings give none."
  pub no_record : setting_id (id_at l at) ≡ true → record_at l at ≡ []
  unfolding command_at
  no_record e = rw (setting-row e).kind

  pub is-group : setting_kind (id_at l at) ≡ 2 → IsGroup
  unfolding setting_kind
  is-group e =
      let p = kind_two (setting_id id) (group_id id) e in
      let s = setting-row p.0 in
      let n : length (row_at id).more ≡ 3 = k.length_more ∙ ap (λ (b : Bool). cond b 3 0) p.1 in
      let inside' = group-inside p.1 in
      let size' : size_at l at ≡ 4 + payload id (header_at l at) (more (group_at l at)) = size-group l at id refl h.small p.1 in
      let no_payload : payload (row_at id).id (header_at l at) (more (group_at l at)) ≡ 0 = setting-payload (row_at id) s (header_at l at) (more (group_at l at)) in
      record {
        size = size' ∙ ap (λ (i : ℕ). 4 + payload i (header_at l at) (more (group_at l at))) (sym k.own-id) ∙ ap (λ (m : ℕ). 4 + m) no_payload;
        fits = omega (arith, setting-fits _ s, k.own-id);
        inside = inside';
        image-is = λ image. setting-is s image (more (group_at l at)) n (group-words l at inside');
      }

  pub record IsSingle : Type 0 where
    pub size : size_at l at ≡ 1
    pub image-is : (image : List ℕ) → apply (command_at l at) image ≡ set image (id_at l at) (header_at l at)

  pub is-single : setting_kind (id_at l at) ≡ 1 → IsSingle
  unfolding setting_kind
  is-single e =
      let p = kind-one (setting_id id) (group_id id) e in
      let s = setting-row p.0 in
      let n : length (row_at id).more ≡ 0 = k.length_more ∙ ap (λ (b : Bool). cond b 3 0) p.1 in
      record { size = size-single l at id refl h.small p.1; image-is = λ image. setting-is s image [] n refl }

  -- ---- work

  by_kind : (t : Kind) (x : ℕ) (ws image : List ℕ) → is_setting t ≡ false
      → leave t id x ws image ≡ cond (keeps_header t) (cond (is_begin t) (set image 0x08 x) (set image id x)) image
  by_kind setting x ws image f = let z : ◌≡◌ {A = Bool} true false = f in let y : ◌≡◌ {A = ℕ} 0 1 = cc in absurd (omega arith)
  by_kind plain x ws image f = refl
  by_kind keeps x ws image f = refl
  by_kind begins x ws image f = refl

  pub record IsWork : Type 0 where
    pub record_is : record_at l at ≡ id_at l at ∷ at ∷ size_at l at ∷ header_at l at ∷ []
    pub image-is : (image : List ℕ) → apply (command_at l at) image ≡ cond (kept_id (id_at l at)) (cond (begin_id (id_at l at)) (set image 0x08 (header_at l at)) (set image (id_at l at) (header_at l at))) image

  pub is-work : setting_kind (id_at l at) ≡ 0 → IsWork
  unfolding setting_kind command_at kept_id begin_id
  is-work e =
      let w = kind_of_row ∙ kind_none (setting_id id) (group_id id) e in
      let s = size-known l at id refl h.small k in
      let n = length-take-le (length (row_at id).more + payload (row_at id).id (header_at l at) (take (length (row_at id).more) (drop (suc at) l))) (drop (suc at) l)
      (omega (arith, h.inside, length-drop (suc at) l)) in
      record {
        record_is = rw w (ap₂ {C = List ℕ} (λ i m. i ∷ at ∷ m ∷ header_at l at ∷ []) k.own-id (ap suc n ∙ sym s));
        image-is = λ image. rw (k.own-id, k.found) (by_kind (row_at id).kind (header_at l at) _ image w);
      }
