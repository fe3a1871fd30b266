-- The laws of the normal form: it does what its list does, is fixed by that, is accepted, and is no longer.
use Prim.Native.Nat.{ℕ, suc, ◌+◌, ◌≤◌}
use native.Mathlib.Omega.{arith}
use mathlib.Core.Path.{◌≡◌, refl, ap, ap₂, sym, ◌∙◌, subst}
use mathlib.Core.Bool.{Bool, true, false, cond, ◌&&◌}
use mathlib.Core.Logic.{◌⊎◌, inl, inr}
use mathlib.Core.List.{List, [], ◌∷◌, ◌++◌, append_assoc, append-nil}
use mathlib.Core.Option.{Option, none, some}
use lib.Dec.{eqb}
use lib.Pow.{high, low}
use borrow.Author.Tests.{eq-eqb}
use lib.ListN.{length, length-append}
use Rattle.rules.specs.Word.{id_of, header_of}
use Rattle.rules.specs.Table.{Kind, setting, plain, keeps, begins, Row, row_of, is_setting, is_begin, size, settings}
use Rattle.rules.specs.Command.{Command, words, words_all}
use Rattle.rules.specs.Image.{leave, apply, final}
use Rattle.rules.specs.Walk.{Order, order_at_start, order_faults, order_after, accepted, parse}
use Rattle.rules.specs.Effect.{Work, works, Effect, effect}
use Rattle.rules.specs.Form.{read, equal, same, emit, differing, form_from, form}
use Rattle.theory.proofs.Image.{equal-refl, length-read}
use Rattle.theory.proofs.Rows.{Setting, settings_apart, AllSettings, settings-all, setting_base, size_at, setting_once}
use Rattle.rules.specs.Valid.{NoFault, Valid, AllValid, InOrder, Accepted}
use Rattle.theory.proofs.Valid.{setting-length, valid-setting}
use Rattle.theory.proofs.Parse.{parse-accepted, parse-words}
use Rattle.theory.proofs.Differing.{length-apply, final_append, Near, near_refl, near_setting, setting_other, flush, differing_none}

-- the two cases of a command
pub form-setting : (fi im : List ℕ) (c : Command) (cs : List Command) → is_setting c.row.kind ≡ true → form_from fi im (c ∷ cs) ≡ form_from fi (apply c im) cs
unfolding form_from
form-setting fi im c cs e = rw e

pub form-work : (fi im : List ℕ) (c : Command) (cs : List Command) → is_setting c.row.kind ≡ false → Near fi im
    → form_from fi im (c ∷ cs) ≡ differing settings fi im ++ c ∷ form_from (apply c im) (apply c im) cs
unfolding form_from
form-work fi im c cs e n =
    let x : final fi (differing settings fi im ++ c ∷ []) ≡ apply c im =
    final_append fi (differing settings fi im) (c ∷ []) ∙ ap (apply c) (flush fi im n) in
    rw (e, x)

pub is-setting : (k : Kind) → is_setting k ≡ true → k ≡ setting
is-setting setting e = refl
is-setting plain e = cc
is-setting keeps e = cc
is-setting begins e = cc

-- a statement on lists of valid commands, from the three cases of a list
module _ (P : List ℕ → List ℕ → List Command → Type 0)
    (nil : (fi im : List ℕ) → Near fi im → P fi im [])
    (keep : (fi im : List ℕ) (c : Command) (cs : List Command) → Near fi im → Valid c → Setting c.row → is_setting c.row.kind ≡ true
    → AllValid cs → Near fi (apply c im) → P fi (apply c im) cs → P fi im (c ∷ cs))
    (work : (fi im : List ℕ) (c : Command) (cs : List Command) → Near fi im → Valid c → is_setting c.row.kind ≡ false
    → AllValid cs → P (apply c im) (apply c im) cs → P fi im (c ∷ cs)) where
  by_cases : (fi im : List ℕ) (cs : List Command) → Near fi im → AllValid cs → P fi im cs
  by_cases fi im [] n v = nil fi im n
  by_cases fi im (c ∷ cs) n v =
      (elim (is_setting c.row.kind) as (λ t. is_setting c.row.kind ≡ t → P fi im (c ∷ cs)) [
        | true ↦ λ e. let s = valid-setting c v.0 (is-setting c.row.kind e) in
            keep fi im c cs n v.0 s e v.1 (near_setting fi im c n v.0 s)
            (by_cases fi (apply c im) cs (near_setting fi im c n v.0 s) v.1)
        | false ↦ λ e. work fi im c cs n v.0 e v.1
            (by_cases (apply c im) (apply c im) cs (near_refl (apply c im) (length-apply c im ∙ n.long_im)) v.1)
      ]) refl

-- what is put out is settings
abbrev Quiet : List Command → Type 0
Quiet [] = Unit {0}
Quiet (c ∷ cs) = Setting c.row × Quiet cs

differing_quiet : (rs : List Row) (fi im : List ℕ) → AllSettings rs → Quiet (differing rs fi im)
differing_quiet [] fi im s = tt
differing_quiet (r ∷ rs) fi im s =
    elim (same r fi im) as (λ t. Quiet (cond t (differing rs fi im) (emit r im ∷ differing rs fi im))) [
      | true ↦ differing_quiet rs fi im s.1
      | false ↦ (s.0, differing_quiet rs fi im s.1)
    ]

works_quiet : (im : List ℕ) (qs cs : List Command) → Quiet qs → works im (qs ++ cs) ≡ works (final im qs) cs
works_quiet im [] cs q = refl
works_quiet im (c ∷ qs) cs q =
    let e : is_setting c.row.kind ≡ true = ap is_setting q.0.kind in
    rw e (works_quiet (apply c im) qs cs q.1)

works-setting : (im : List ℕ) (c : Command) (cs : List Command) → is_setting c.row.kind ≡ true → works im (c ∷ cs) ≡ works (apply c im) cs
works-setting im c cs e = rw e

works-work : (im : List ℕ) (c : Command) (cs : List Command) → is_setting c.row.kind ≡ false
    → works im (c ∷ cs) ≡ record { said = words c; met = im } ∷ works (apply c im) cs
works-work im c cs e = rw e

all_quiet : (fi im : List ℕ) → Quiet (differing settings fi im)
all_quiet fi im = differing_quiet settings fi im settings-all

pub form_nil : (fi im : List ℕ) → form_from fi im [] ≡ differing settings fi im
unfolding form_from
form_nil fi im = refl

works_none : (fi im : List ℕ) → works fi (form_from fi im []) ≡ []
works_none fi im =
    ap (works fi) (form_nil fi im ∙ sym (append-nil (differing settings fi im))) ∙ works_quiet fi (differing settings fi im) [] (all_quiet fi im)

-- the form's work
pub form-works : (fi im : List ℕ) (cs : List Command) → Near fi im → AllValid cs → works fi (form_from fi im cs) ≡ works im cs
form-works = by_cases (λ fi im cs. works fi (form_from fi im cs) ≡ works im cs)
    (λ fi im n. works_none fi im)
    (λ fi im c cs n v s e vs n' ih. ap (works fi) (form-setting fi im c cs e) ∙ ih ∙ sym (works-setting im c cs e))
    (λ fi im c cs n v e vs ih.
    ap (works fi) (form-work fi im c cs e n) ∙ works_quiet fi (differing settings fi im) _ (all_quiet fi im)
    ∙ ap (λ (m : List ℕ). works m (c ∷ form_from (apply c im) (apply c im) cs)) (flush fi im n)
    ∙ works-work im c (form_from (apply c im) (apply c im) cs) e ∙ ap (λ (l : List Work). record { said = words c; met = im } ∷ l) ih ∙ sym (works-work im c cs e))

pub form-final : (fi im : List ℕ) (cs : List Command) → Near fi im → AllValid cs → final fi (form_from fi im cs) ≡ final im cs
form-final = by_cases (λ fi im cs. final fi (form_from fi im cs) ≡ final im cs)
    (λ fi im n. ap (final fi) (form_nil fi im) ∙ flush fi im n)
    (λ fi im c cs n v s e vs n' ih. ap (final fi) (form-setting fi im c cs e) ∙ ih)
    (λ fi im c cs n v e vs ih.
    ap (final fi) (form-work fi im c cs e n) ∙ final_append fi (differing settings fi im) _
    ∙ ap (λ (m : List ℕ). final m (c ∷ form_from (apply c im) (apply c im) cs)) (flush fi im n) ∙ ih)

-- ---- the form, from what the list does alone

-- the image after a work command's words
after_row : Option Row → ℕ → List ℕ → List ℕ → List ℕ
after_row none h ws im = im
after_row (some r) h ws im = leave r.kind r.id h ws im

after : List ℕ → List ℕ → List ℕ
after [] im = im
after (w ∷ ws) im = after_row (row_of (id_of w)) (header_of w) ws im

after-words : (c : Command) (im : List ℕ) → Valid c → after (words c) im ≡ apply c im
unfolding after after_row
after-words c im v = rw (high c.row.id 24 v.small, low c.row.id 24 v.small, v.found)

pub form_of : List ℕ → List Work → List ℕ → List ℕ
form_of fi [] last = words_all (differing settings fi last)
form_of fi (w ∷ ws) last = words_all (differing settings fi w.met) ++ (w.said ++ form_of (after w.said w.met) ws last)

pub words_all_append : (a b : List Command) → words_all (a ++ b) ≡ words_all a ++ words_all b
words_all_append [] b = refl
words_all_append (c ∷ a) b = ap (λ (l : List ℕ). words c ++ l) (words_all_append a b) ∙ sym (append_assoc (words c) (words_all a) (words_all b))

-- the words of one command more
pub words-on : (cs : List Command) (c : Command) (at : ℕ) → at ≡ length (words_all cs) → at + suc (length c.rest) ≡ length (words_all (cs ++ c ∷ []))
words-on cs c at e =
    omega (arith, ap length (words_all_append cs (c ∷ [])), length-append (words_all cs) (words_all (c ∷ [])), length-append c.rest [])

form_factors : (fi im : List ℕ) (cs : List Command) → Near fi im → AllValid cs → words_all (form_from fi im cs) ≡ form_of fi (works im cs) (final im cs)
unfolding form_of
form_factors = by_cases (λ fi im cs. words_all (form_from fi im cs) ≡ form_of fi (works im cs) (final im cs))
    (λ fi im n. ap words_all (form_nil fi im))
    (λ fi im c cs n v s e vs n' ih. ap words_all (form-setting fi im c cs e) ∙ ih ∙ ap (λ (l : List Work). form_of fi l (final (apply c im) cs)) (sym (works-setting im c cs e)))
    (λ fi im c cs n v e vs ih.
    ap words_all (form-work fi im c cs e n) ∙ words_all_append (differing settings fi im) (c ∷ form_from (apply c im) (apply c im) cs)
    ∙ ap (λ (l : List ℕ). words_all (differing settings fi im) ++ (words c ++ l))
    (ih ∙ ap (λ (m : List ℕ). form_of m (works (apply c im) cs) (final (apply c im) cs)) (sym (after-words c im v)))
    ∙ ap (λ (l : List Work). form_of fi l (final (apply c im) cs)) (sym (works-work im c cs e)))

-- ---- the form's commands are valid

pub valid_append : (a b : List Command) → AllValid a → AllValid b → AllValid (a ++ b)
valid_append [] b p q = q
valid_append (c ∷ a) b p q = (p.0, valid_append a b p.1 q)

pub differs_valid : (r : Row) (fi im : List ℕ) → Setting r → Near fi im → same r fi im ≡ false → Valid (emit r im)
differs_valid r fi im s n e =
    elim (n.backed r s) [
      | inl p ↦
          let t : same r fi im ≡ true = ap (λ (l : List ℕ). equal l (read im r.id (size r))) p ∙ equal-refl (read im r.id (size r)) in
          let z : ◌≡◌ {A = ℕ} 0 1 = cc in
          absurd (omega arith)
      | inr v ↦ v
    ]

differing-valid : (rs : List Row) (fi im : List ℕ) → AllSettings rs → Near fi im → AllValid (differing rs fi im)
differing-valid [] fi im s n = tt
differing-valid (r ∷ rs) fi im s n =
    (elim (same r fi im) as (λ t. same r fi im ≡ t → AllValid (cond t (differing rs fi im) (emit r im ∷ differing rs fi im))) [
      | true ↦ λ e. differing-valid rs fi im s.1 n
      | false ↦ λ e. (differs_valid r fi im s.0 n e, differing-valid rs fi im s.1 n)
    ]) refl

form-valid : (fi im : List ℕ) (cs : List Command) → Near fi im → AllValid cs → AllValid (form_from fi im cs)
form-valid = by_cases (λ fi im cs. AllValid (form_from fi im cs))
    (λ fi im n. subst AllValid (sym (form_nil fi im)) (differing-valid settings fi im settings-all n))
    (λ fi im c cs n v s e vs n' ih. subst AllValid (sym (form-setting fi im c cs e)) ih)
    (λ fi im c cs n v e vs ih. subst AllValid (sym (form-work fi im c cs e n))
    (valid_append (differing settings fi im) (c ∷ form_from (apply c im) (apply c im) cs) (differing-valid settings fi im settings-all n) (v, ih)))

-- ---- the form keeps the order rules

-- the law of settings: they are all in order where one is, and one in order leaves what the rules on order need as it is
SettingsFit : Order → Type 0
SettingsFit o = (c : Command) (im : List ℕ) → Setting c.row → NoFault (order_faults (record { order = o; image = im }) c) × (order_after o c ≡ o)

and_one : (b : Bool) → (b && true) ≡ false → b ≡ false
and_one true e = e
and_one false e = refl

setting-order : (o : Order) (im : List ℕ) (c : Command) → Setting c.row → NoFault (order_faults (record { order = o; image = im }) c) → SettingsFit o
unfolding SettingsFit order_faults order_after
setting-order o im c s e d jm t =
    let k : is_begin c.row.kind ≡ false = ap is_begin s.kind in
    let off : o.flip ≡ false = and_one o.flip (rw k at e.0) in
    (rw off (refl, tt), ap (λ (b : Bool). record { flip = b }) (setting_base d.row t ∙ sym off))

quiet_order : (o : Order) → SettingsFit o → (im : List ℕ) (qs cs : List Command) → Quiet qs → InOrder (record { order = o; image = final im qs }) cs
    → InOrder (record { order = o; image = im }) (qs ++ cs)
unfolding SettingsFit
quiet_order o ok im [] cs q f = f
quiet_order o ok im (c ∷ qs) cs q f = (
  (ok c im q.0).0,
  subst (λ (p : Order). InOrder (record { order = p; image = apply c im }) (qs ++ cs)) (sym (ok c im q.0).1) (quiet_order o ok (apply c im) qs cs q.1 f),
)

-- the differing settings before cs: none where no setting fits
order-out : (o : Order) (fi im : List ℕ) (cs : List Command) → Near fi im → SettingsFit o ⊎ (fi ≡ im)
    → InOrder (record { order = o; image = im }) cs → InOrder (record { order = o; image = fi }) (differing settings fi im ++ cs)
order-out o fi im cs n (inl ok) f =
    quiet_order o ok fi (differing settings fi im) cs (all_quiet fi im)
    (subst (λ (m : List ℕ). InOrder (record { order = o; image = m }) cs) (sym (flush fi im n)) f)
order-out o fi im cs n (inr h) f =
    subst (λ (m : List ℕ). InOrder (record { order = o; image = m }) (differing settings m im ++ cs)) (sym h)
    (subst (λ (l : List Command). InOrder (record { order = o; image = im }) (l ++ cs)) (sym (differing_none settings im)) f)

-- a work command meets the same state in the form as in the list
form-order : (fi im : List ℕ) (cs : List Command) → Near fi im → AllValid cs → (o : Order) → SettingsFit o ⊎ (fi ≡ im)
    → InOrder (record { order = o; image = im }) cs → InOrder (record { order = o; image = fi }) (form_from fi im cs)
unfolding SettingsFit
form-order = by_cases (λ fi im cs. (o : Order) → SettingsFit o ⊎ (fi ≡ im)
    → InOrder (record { order = o; image = im }) cs → InOrder (record { order = o; image = fi }) (form_from fi im cs))
    (λ fi im n o h f. subst (InOrder (record { order = o; image = fi })) (append-nil (differing settings fi im) ∙ sym (form_nil fi im))
    (order-out o fi im [] n h tt))
    (λ fi im c cs n v x e vs n' ih o h f.
    let ok : SettingsFit o = setting-order o im c x f.0 in
    subst (InOrder (record { order = o; image = fi })) (sym (form-setting fi im c cs e))
    (ih o (inl ok) (subst (λ (p : Order). InOrder (record { order = p; image = apply c im }) cs) (ok c im x).1 f.1)))
    (λ fi im c cs n v e vs ih o h f. subst (InOrder (record { order = o; image = fi })) (sym (form-work fi im c cs e n))
    (order-out o fi im (c ∷ form_from (apply c im) (apply c im) cs) n h (f.0, ih (order_after o c) (inr refl) f.1)))

-- ---- the form is no longer than the list

-- the words of the settings of rs that differ
out : List Row → List ℕ → List ℕ → ℕ
out rs fi im = length (words_all (differing rs fi im))

out_cons : (r : Row) (rs : List Row) (fi im : List ℕ) → out (r ∷ rs) fi im ≡ cond (same r fi im) 0 (size r) + out rs fi im
unfolding out
out_cons r rs fi im =
    elim (same r fi im) as (λ t. length (words_all (cond t (differing rs fi im) (emit r im ∷ differing rs fi im))) ≡ cond t 0 (size r) + length (words_all (differing rs fi im))) [
      | true ↦ omega arith
      | false ↦
          let l = length-append (read im (suc r.id) (length r.more)) (words_all (differing rs fi im)) in
          omega (arith, length-read im (suc r.id) (length r.more))
    ]

out-is : (fi im : List ℕ) → out settings fi im ≡ length (words_all (differing settings fi im))
unfolding out
out-is fi im = refl

out_none : (im : List ℕ) → out settings im im ≡ 0
unfolding out
out_none im = ap (λ (l : List Command). length (words_all l)) (differing_none settings im)

short_nil : (fi im : List ℕ) → length (words_all (form_from fi im [])) ≤ out settings fi im + 0
short_nil fi im = omega (arith, ap (λ (l : List Command). length (words_all l)) (form_nil fi im), out-is fi im)

size_at_cons : (i : ℕ) (r : Row) (rs : List Row) → size_at i (r ∷ rs) ≡ cond (eqb r.id i) (size r) 0 + size_at i rs
unfolding size_at
size_at_cons i r rs = refl

cond-le : (b : Bool) (n : ℕ) → cond b 0 n ≤ n
cond-le true n = omega arith
cond-le false n = omega arith

-- one more setting: at most its own words more
out-setting : (rs : List Row) (fi im : List ℕ) (c : Command) → AllSettings rs → Setting c.row → Valid c
    → out rs fi (apply c im) ≤ out rs fi im + size_at c.row.id rs
unfolding out
out-setting [] fi im c a s v = omega arith
out-setting (r ∷ rs) fi im c a s v =
    let ih = out-setting rs fi im c a.1 s v in
    let e₁ = out_cons r rs fi im in
    let e₂ = out_cons r rs fi (apply c im) in
    elim (settings_apart r c.row a.0 s) [
      | inl e ↦
          let k : cond (eqb r.id c.row.id) (size r) 0 ≡ size r = ap (λ (b : Bool). cond b (size r) 0) (eq-eqb r.id c.row.id (ap (λ (x : Row). x.id) e)) in
          let m = size_at_cons c.row.id r rs in
          let l = cond-le (same r fi (apply c im)) (size r) in
          omega arith
      | inr h ↦
          let t : same r fi (apply c im) ≡ same r fi im = ap (λ (l : List ℕ). equal (read fi r.id (size r)) l) (setting_other c im s v r h) in
          let u : cond (same r fi (apply c im)) 0 (size r) ≡ cond (same r fi im) 0 (size r) = ap (λ (b : Bool). cond b 0 (size r)) t in
          let m = size_at_cons c.row.id r rs in
          omega arith
    ]

form-short : (fi im : List ℕ) (cs : List Command) → Near fi im → AllValid cs
    → length (words_all (form_from fi im cs)) ≤ out settings fi im + length (words_all cs)
form-short = by_cases (λ fi im cs. length (words_all (form_from fi im cs)) ≤ out settings fi im + length (words_all cs))
    (λ fi im n. short_nil fi im)
    (λ fi im c cs n v s e vs n' ih.
    let x = ap (λ (l : List Command). length (words_all l)) (form-setting fi im c cs e) in
    let y = out-setting settings fi im c settings-all s v in
    let z = setting_once c.row s in
    let w = setting-length c s v in
    let l = length-append c.rest (words_all cs) in
    omega arith)
    (λ fi im c cs n v e vs ih.
    let x = ap (λ (l : List Command). length (words_all l)) (form-work fi im c cs e n) in
    let y = ap length (words_all_append (differing settings fi im) (c ∷ form_from (apply c im) (apply c im) cs)) in
    let z = length-append (words_all (differing settings fi im)) (words_all (c ∷ form_from (apply c im) (apply c im) cs)) in
    let l = length-append c.rest (words_all cs) in
    let m = length-append c.rest (words_all (form_from (apply c im) (apply c im) cs)) in
    let o = out_none (apply c im) in
    let u = out-is fi im in
    omega arith)

-- ---- demand 3

-- the form never has more words than its commands
pub form_within : (im : List ℕ) (cs : List Command) → length im ≡ 256 → AllValid cs → length (words_all (form im cs)) ≤ length (words_all cs)
form_within im cs whole v = omega (arith, form-short im im cs (near_refl im whole) v, out_none im)

module _ (im ws : List ℕ) (cs : List Command) (e : parse im ws ≡ accepted cs) where
  a : Accepted im ws cs
  a = parse-accepted im ws cs e

  n : Near im im
  n = near_refl im a.whole

  -- the form never has more words than its list
  pub form-fits : length (words_all (form im cs)) ≤ length ws
  form-fits =
      omega (arith, form_within im cs a.whole a.parses.valid, ap length a.parses.words_are)

  pub form-accepted : parse im (words_all (form im cs)) ≡ accepted (form im cs)
  form-accepted =
      parse-words im (form im cs) (omega (arith, form-fits, a.few)) a.whole
      (form-valid im im cs n a.parses.valid) (form-order im im cs n a.parses.valid order_at_start (inr refl) a.parses.ordered)

  pub form-same : effect im (form im cs) ≡ effect im cs
  form-same = ap₂ {C = Effect} (λ d l. record { done = d; left = l }) (form-works im im cs n a.parses.valid) (form-final im im cs n a.parses.valid)

  pub form-from-effect : words_all (form im cs) ≡ form_of im (works im cs) (final im cs)
  form-from-effect = form_factors im im cs n a.parses.valid

pub same-form : (im ws us : List ℕ) (cs ds : List Command) → parse im ws ≡ accepted cs → parse im us ≡ accepted ds
    → effect im cs ≡ effect im ds → words_all (form im cs) ≡ words_all (form im ds)
same-form im ws us cs ds p q e =
    form-from-effect im ws cs p
    ∙ ap (λ (x : Effect). form_of im x.done x.left) e
    ∙ sym (form-from-effect im us ds q)

pub same_effect : (im ws us : List ℕ) (cs ds : List Command) → parse im ws ≡ accepted cs → parse im us ≡ accepted ds
    → words_all (form im cs) ≡ words_all (form im ds) → effect im cs ≡ effect im ds
same_effect im ws us cs ds p q e =
    let x : accepted (form im cs) ≡ accepted (form im ds) =
    sym (form-accepted im ws cs p) ∙ ap (parse im) e ∙ form-accepted im us ds q in
    let y : form im cs ≡ form im ds = cc in
    sym (form-same im ws cs p) ∙ ap (effect im) y ∙ form-same im us ds q

-- the normal form is accepted, does what its list does, and is its own normal form
pub normal_again : (im ws : List ℕ) (cs : List Command) → parse im ws ≡ accepted cs
    → (parse im (words_all (form im cs)) ≡ accepted (form im cs))
    × (effect im (form im cs) ≡ effect im cs)
    × (words_all (form im (form im cs)) ≡ words_all (form im cs))
normal_again im ws cs p = (
  form-accepted im ws cs p,
  form-same im ws cs p,
  same-form im (words_all (form im cs)) ws (form im cs) cs (form-accepted im ws cs p) p (form-same im ws cs p),
)
