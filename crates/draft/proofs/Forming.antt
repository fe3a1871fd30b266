-- A form in the making: what is written is the form of the commands passed but for the settings that are still to be put
-- out, whatever commands follow.
use Prim.Native.Nat.{ℕ, suc, ◌+◌, ◌^◌, ◌≤◌, ◌<◌}
use native.Mathlib.Nat.{zero-add}
use native.Mathlib.Omega.{arith}
use native.Mathlib.Decide.{ℕ_discrete, dec_lt}
use Rattle.std.proofs.lemmas.List.{get_or-replicate, get_or_past}
use mathlib.Core.Path.{◌≡◌, refl, ap, ap₂, sym, ◌∙◌, subst}
use mathlib.Core.Bool.{Bool, true, false, not}
use mathlib.Core.Logic.{inl, inr}
use mathlib.Core.List.{List, [], ◌∷◌, ◌++◌, append_assoc, append-nil}
use mathlib.Core.Option.{Option, none, some}
use lib.Bits.{bit_or}
use lib.Dec.{eqb}
use lib.ListN.{length, replicate, get_or, set, length-append, length-set}
use lib.Seq.{sets, get_or-set_same, get_or-set_other}
use borrow.Author.Tests.{not-true, not-false, ne_eqb}
use Rattle.rules.specs.Table.{Row, size, is_setting, settings}
use Rattle.rules.specs.Command.{Command, words, words_all}
use Rattle.rules.specs.Valid.{Valid, AllValid}
use Rattle.rules.specs.Image.{apply}
use Rattle.rules.specs.Form.{read, differing, form_from, form}
use Rattle.theory.proofs.Rows.{Setting, settings_apart}
use Rattle.theory.proofs.Valid.{setting-length, valid-setting}
use Rattle.theory.proofs.Image.{sets_append}
use Rattle.theory.proofs.Differing.{Near, near_refl, near_setting, length-apply, emit-own, setting_other, work_other}
use Rattle.theory.proofs.Form.{is-setting, form_nil, form-setting, form-work, form_within, words_all_append, words-on, valid_append}
use Rattle.table.specs.Ids.{setting_id, setting_kind}
use Rattle.table.proofs.Tables.{setting-is}
use Rattle.command.specs.View.{size_at}
use Rattle.command.specs.Effects.{id_at, CommandAt}
use Rattle.command.proofs.Standing.{Stands, command_at_lem}
use Rattle.settings.specs.Numbers.{holds, number_of}
use Rattle.settings.specs.Output.{longest, Output, emit_changed, CanEmitChanged}
use Rattle.settings.proofs.Numbers.{holds-put, holds_other, holds_none, setting_of, setting_of_lem, number_of_lem}
use Rattle.settings.proofs.Emitting.{SetAt, set_cong, sent_cong, LatestAt, Latest, Progress, emit-all}
use Rattle.draft.specs.Drafts.{Drafted, output_of, after_setting, after_work, after_command, CanWork, CanTake}

pub record Forming (image₀ l start : List ℕ) (done : List Command) (s : Drafted) : Type 0 where
  pub valid : AllValid done
  pub at_is : s.at ≡ length (words_all done)
  pub inside : s.at ≤ length l
  pub image : List ℕ
  pub built : List ℕ
  pub near : Near built image
  pub long : length s.latest ≡ 64
  pub latest-is : Latest l built image s.changed s.latest
  pub so_far : List ℕ
  pub progress : Progress l image₀ start (λ k. built) so_far (output_of s)
  pub form-is : (rest : List Command) → words_all (form image₀ (done ++ rest)) ≡ so_far ++ words_all (form_from built image rest)

zero_at : (k : ℕ) → ◌≡◌ {A = ℕ} (get_or (replicate 64 0) k 0) 0
zero_at k = elim (dec_lt k 64) [
  | yes h ↦ get_or-replicate 64 k 0 0 h
  | no h ↦ get_or_past (replicate 64 0) k 0 (omega arith)
]

-- no setting is changed where the form has built the list's image
latest_none : (l image latest : List ℕ) → Latest l image image 0 latest
latest_none l image latest k = rw (holds_none k) (by_number (setting_of k))
  where
    by_number : (q : Option Row) → LatestAt l image image q false (get_or latest k 0)
    by_number none = refl
    by_number (some r) = refl

-- a setting put in the list's image
module _ (l built image latest : List ℕ) (changed at : ℕ) (c : Command) (s : Setting c.row) (v : Valid c) (whole : length image ≡ 256)
    (long : length latest ≡ 64) (own : read l at (size c.row) ≡ words c) (inside : at + size c.row ≤ length l)
    (is : Latest l built image changed latest) where
  abbrev k : ℕ
  k = number_of c.row.id

  set_here : SetAt l at c.row (apply c image)
  set_here =
      let e = sym (emit-own c image s v whole) in
      record { words_are = own ∙ ap words e; valid = subst Valid e v; inside = inside }

  other_number : (j : ℕ) → (j ≡ k → ⊥) → (q : Option Row) → setting_of j ≡ q → (b : Bool) (p : ℕ) → LatestAt l built image q b p → LatestAt l built (apply c image) q b p
  other_number j ne none e b p h = h
  other_number j ne (some r) e b p h =
      let n = setting_of_lem j r e in
      let same : read (apply c image) r.id (size r) ≡ read image r.id (size r) =
      elim (settings_apart r c.row n.setting s) [
        | inl f ↦ absurd (ne (sym n.number ∙ ap (λ (x : Row). number_of x.id) f))
        | inr f ↦ setting_other c image s v r f
      ] in
      (elim b as (λ t. LatestAt l built image (some r) t p → LatestAt l built (apply c image) (some r) t p) [
        | true ↦ set_cong l r image (apply c image) (sym same) p
        | false ↦ λ x. x ∙ sym same
      ]) h

  latest-set : Latest l built (apply c image) (bit_or changed (2 ^ k)) (set latest k at)
  latest-set j =
      elim (ℕ_discrete j k) [
        | yes e ↦
            let n = setting_of_lem k c.row (number_of_lem c.row s) in
            rw (e, number_of_lem c.row s, holds-put changed k, get_or-set_same latest k at 0 (omega arith)) set_here
        | no e ↦ rw (holds_other changed k j e, get_or-set_other latest k j at 0 e) (other_number j e (setting_of j) refl (holds changed j) (get_or latest j 0) (is j))
      ]

-- the kind of a command's id
kind_of : (c : Command) → Valid c → not (eqb (setting_kind c.row.id) 0) ≡ is_setting c.row.kind
unfolding setting_id
kind_of c v = setting-is c.row.id ∙ rw v.found

module _ (image₀ l start : List ℕ) (few : length l ≤ longest) (whole : length image₀ ≡ 256) where
  pub forming_start : Forming image₀ l start [] (record { at = 0; written = 0; changed = 0; latest = replicate 64 0; sent = replicate 64 0; out = start })
  forming_start =
      record {
        valid = tt;
        at_is = refl;
        inside = omega arith;
        image = image₀;
        built = image₀;
        near = near_refl image₀ whole;
        long = refl;
        latest-is = latest_none l image₀ (replicate 64 0);
        so_far = [];
        progress = record { long = refl; written_is = refl; out-is = refl; sent_is = λ k r f. inl (zero_at k, refl) };
        form-is = λ rest. refl;
      }

  module _ (done : List Command) (s : Drafted) (g : Forming image₀ l start done s) where
    abbrev ahead : List ℕ
    ahead = g.so_far ++ words_all (differing settings g.built g.image)

    abbrev o : Output
    o = emit_changed s.changed l image₀ s.latest (output_of s)

    -- the form of the commands passed
    passed-form : words_all (form image₀ done) ≡ ahead
    passed-form =
        ap (λ (x : List Command). words_all (form image₀ x)) (sym (append-nil done)) ∙ g.form-is []
        ∙ ap (λ (x : List Command). g.so_far ++ words_all x) (form_nil g.built g.image)

    ahead_fits : length ahead ≤ longest
    ahead_fits = omega (arith, ap length passed-form, form_within image₀ done whole g.valid, g.at_is, g.inside)

    emitted : Progress l image₀ start (λ k. g.image) ahead o × CanEmitChanged s.changed l image₀ s.latest (output_of s)
    emitted = emit-all l image₀ g.built g.image start s.latest s.changed few whole g.latest-is g.so_far (output_of s) g.progress ahead_fits

    -- the end of the list
    pub can_end : CanEmitChanged s.changed l image₀ s.latest (output_of s)
    can_end = emitted.1

    pub forming_end : (o' : Output) → o' ≡ o → (o'.written ≡ length (words_all (form image₀ done))) × (o'.out ≡ sets start 0 (words_all (form image₀ done)))
    forming_end o' eo = let p = emitted.0 in rw (eo, passed-form) (p.written_is, p.out-is)

    -- a command
    module _ (c : Command) (tail : List ℕ) (t : Stands l s.at c tail) where
      here : CommandAt l s.at
      here = command_at_lem few t

      next_at : s.at + size_at l s.at ≡ length (words_all (done ++ c ∷ []))
      next_at = ap (λ (j : ℕ). s.at + j) t.size_is ∙ words-on done c s.at g.at_is

      next-inside : s.at + size_at l s.at ≤ length l
      next-inside = omega (arith, t.size_is, t.inside)

      form-on : (rest : List Command) → words_all (form image₀ ((done ++ c ∷ []) ++ rest)) ≡ g.so_far ++ words_all (form_from g.built g.image (c ∷ rest))
      form-on rest = ap (λ (x : List Command). words_all (form image₀ x)) (append_assoc done (c ∷ []) rest) ∙ g.form-is (c ∷ rest)

      set_on : is_setting c.row.kind ≡ true → Forming image₀ l start (done ++ c ∷ []) (after_setting l s)
      set_on is =
          let x : Setting c.row = valid-setting c t.valid (is-setting c.row.kind is) in
          let n = setting-length c x t.valid in
          let sz : suc (length c.rest) ≡ size c.row = omega arith in
          let set-latest = latest-set l g.built g.image s.latest s.changed s.at c x t.valid g.near.long_im g.long
          (ap (read l s.at) (sym sz) ∙ t.own) (omega (arith, t.inside)) g.latest-is in
          record {
            valid = valid_append done (c ∷ []) g.valid (t.valid, tt);
            at_is = next_at;
            inside = next-inside;
            image = apply c g.image;
            built = g.built;
            near = near_setting g.built g.image c g.near t.valid x;
            long = length-set s.latest (number_of (id_at l s.at)) s.at ∙ g.long;
            latest-is = rw t.id-is set-latest;
            so_far = g.so_far;
            progress = g.progress;
            form-is = λ rest. form-on rest ∙ ap (λ (y : List Command). g.so_far ++ words_all y) (form-setting g.built g.image c rest is);
          }

      can_work : CanWork l image₀ s
      can_work = record { command = here; emits = emitted.1; fits = omega (arith, emitted.0.written_is, ahead_fits) }

      module _ (is : is_setting c.row.kind ≡ false) where
        abbrev im : List ℕ
        im = apply c g.image

        work-form : (rest : List Command) → words_all (form image₀ ((done ++ c ∷ []) ++ rest)) ≡ (ahead ++ words c) ++ words_all (form_from im im rest)
        work-form rest =
            form-on rest ∙ ap (λ (y : List Command). g.so_far ++ words_all y) (form-work g.built g.image c rest is g.near)
            ∙ ap (λ (y : List ℕ). g.so_far ++ y) (words_all_append (differing settings g.built g.image) (c ∷ form_from im im rest))
            ∙ sym (append_assoc g.so_far (words_all (differing settings g.built g.image)) (words c ++ words_all (form_from im im rest)))
            ∙ sym (append_assoc ahead (words c) (words_all (form_from im im rest)))

        work-on : Forming image₀ l start (done ++ c ∷ []) (after_work l image₀ s)
        work-on =
            let long' : length im ≡ 256 = length-apply c g.image ∙ g.near.long_im in
            let p = emitted.0 in
            let own' : read l s.at (size_at l s.at) ≡ words c = ap (read l s.at) t.size_is ∙ t.own in
            let n = length-append ahead (words c) in
            record {
              valid = valid_append done (c ∷ []) g.valid (t.valid, tt);
              at_is = next_at;
              inside = next-inside;
              image = im;
              built = im;
              near = near_refl im long';
              long = g.long;
              latest-is = latest_none l im s.latest;
              so_far = ahead ++ words c;
              progress = record {
                long = p.long;
                written_is = omega (arith, p.written_is, t.size_is);
                out-is = ap₂ (λ (x : List ℕ) (j : ℕ). sets x j (read l s.at (size_at l s.at))) p.out-is (p.written_is ∙ sym (zero-add (length ahead)))
                    ∙ ap (sets (sets start 0 ahead) (0 + length ahead)) own' ∙ sym (sets_append start 0 ahead (words c));
                sent_is = λ j r f.
                    sent_cong l r g.image im (sym (work_other r (setting_of_lem j r f).setting g.image c t.valid is)) image₀ _ (p.sent_is j r f);
              };
              form-is = work-form;
            }

      pub setting-kind : not (eqb (setting_kind (id_at l s.at)) 0) ≡ is_setting c.row.kind
      setting-kind = ap (λ (i : ℕ). not (eqb (setting_kind i) 0)) t.id-is ∙ kind_of c t.valid

      pub can_take : CanTake l image₀ s
      can_take = record {
        command = here;
        number = λ f.
            let x = valid-setting c t.valid (is-setting c.row.kind (sym setting-kind ∙ ap not (ne_eqb _ 0 f))) in
            omega (arith, (setting_of_lem (number_of c.row.id) c.row (number_of_lem c.row x)).small, ap number_of t.id-is);
        work = λ f. can_work;
      }

      pub forming_on : (s' : Drafted) → s' ≡ after_command l image₀ s → (s.at < s'.at) × Forming image₀ l start (done ++ c ∷ []) s'
      unfolding after_command
      forming_on s' es =
          let less : s.at < s.at + size_at l s.at = omega (arith, t.size_is) in
          rw es ((elim (is_setting c.row.kind) as (λ b. is_setting c.row.kind ≡ b
          → (s.at < (after_command l image₀ s).at) × Forming image₀ l start (done ++ c ∷ []) (after_command l image₀ s)) [
            | true ↦ λ is. rw (not-true (eqb (setting_kind (id_at l s.at)) 0) (setting-kind ∙ is)) (less, set_on is)
            | false ↦ λ is. rw (not-false (eqb (setting_kind (id_at l s.at)) 0) (setting-kind ∙ is)) (less, work-on is)
          ]) refl)
