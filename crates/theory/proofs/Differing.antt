-- The settings that differ, put out, make the form's image the list's.
use Prim.Native.Nat.{ℕ, suc, ◌+◌, ◌≤◌, ◌<◌}
use native.Mathlib.Omega.{arith}
use mathlib.Core.Path.{◌≡◌, refl, ap, ap₂, sym, ◌∙◌, subst}
use mathlib.Core.Bool.{Bool, true, false, cond}
use mathlib.Core.Logic.{◌⊎◌, inl, inr}
use mathlib.Core.List.{List, [], ◌∷◌, ◌++◌}
use native.Mathlib.Decide.{dec_le, dec_lt}
use lib.ListN.{length, get_or, set, drop, length-set}
use lib.Seq.{sets, length-sets, ext_get_or, get_or-set_other}
use Rattle.rules.specs.Table.{Kind, setting, plain, keeps, begins, Row, is_setting, size, settings}
use Rattle.rules.specs.Command.{Command}
use Rattle.rules.specs.Image.{leave, apply, final}
use Rattle.rules.specs.Form.{read, same, emit, differing}
use Rattle.theory.proofs.Image.{sets_below, sets_above, sets_read, read_cong, read_at, read_sets, length-read, equal-true, equal-refl}
use Rattle.theory.proofs.Rows.{Setting, setting-fits, settings_apart, inside, inside_any, inside-from, inside_to, setting-inside, AllSettings, settings-all, keeps_outside, begins-outside}
use Rattle.theory.proofs.Bools.{or_false}
use Rattle.rules.specs.Valid.{Valid}
use Rattle.theory.proofs.Valid.{setting-length}

pub length-leave : (k : Kind) (i h : ℕ) (ws im : List ℕ) → length (leave k i h ws im) ≡ length im
length-leave setting i h ws im = length-sets im i (h ∷ ws)
length-leave plain i h ws im = refl
length-leave keeps i h ws im = length-set im i h
length-leave begins i h ws im = length-set im 8 h

pub length-apply : (c : Command) (im : List ℕ) → length (apply c im) ≡ length im
length-apply c im = length-leave c.row.kind c.row.id c.header c.rest im

pub length-final : (im : List ℕ) (cs : List Command) → length (final im cs) ≡ length im
length-final im [] = refl
length-final im (c ∷ cs) = length-final (apply c im) cs ∙ length-apply c im

pub final_append : (im : List ℕ) (a b : List Command) → final im (a ++ b) ≡ final (final im a) b
final_append im [] b = refl
final_append im (c ∷ cs) b = final_append (apply c im) cs b

pub apply-setting : (c : Command) (im : List ℕ) → c.row.kind ≡ setting → apply c im ≡ sets im c.row.id (c.header ∷ c.rest)
apply-setting c im e = ap (λ (k : Kind). leave k c.row.id c.header c.rest im) e

pub emit_cong : (r : Row) (a b : List ℕ) → read a r.id (size r) ≡ read b r.id (size r) → emit r a ≡ emit r b
emit_cong r a b e =
    let p : get_or a r.id 0 ≡ get_or b r.id 0 = cc in
    let q : read a (suc r.id) (length r.more) ≡ read b (suc r.id) (length r.more) = cc in
    ap₂ {C = Command} (λ h ws. record { row = r; header = h; rest = ws }) p q

pub emit-own : (c : Command) (im : List ℕ) → Setting c.row → Valid c → length im ≡ 256 → emit c.row (apply c im) ≡ c
emit-own c im s v l =
    let n = setting-length c s v in
    let f = setting-fits c.row s in
    let e : read (sets im c.row.id (c.header ∷ c.rest)) c.row.id (suc (length c.rest)) ≡ c.header ∷ c.rest =
    read_sets im c.row.id (c.header ∷ c.rest) (omega arith) in
    let a = apply-setting c im s.kind in
    let p : get_or (apply c im) c.row.id 0 ≡ c.header = cc in
    let q : read (apply c im) (suc c.row.id) (length c.row.more) ≡ c.rest =
    rw (a, sym n) (ap (drop 1) e) in
    ap₂ {C = Command} (λ h ws. record { row = c.row; header = h; rest = ws }) p q

-- the form has built fi, and the list im: they differ in settings only, and a setting that differs was set by a valid command
pub record Near (fi im : List ℕ) : Type 0 where
  pub long_fi : length fi ≡ 256
  pub long_im : length im ≡ 256
  pub close : (k : ℕ) → (inside_any settings k ≡ true) ⊎ (get_or fi k 0 ≡ get_or im k 0)
  pub backed : (r : Row) → Setting r → (read fi r.id (size r) ≡ read im r.id (size r)) ⊎ Valid (emit r im)

pub near_refl : (im : List ℕ) → length im ≡ 256 → Near im im
near_refl im l = record { long_fi = l; long_im = l; close = λ k. inr refl; backed = λ r s. inl refl }

-- a word outside a command's range
pub sets_outside : (im : List ℕ) (i : ℕ) (vs : List ℕ) (k : ℕ) → (k < i) ⊎ (i + length vs ≤ k) → get_or (sets im i vs) k 0 ≡ get_or im k 0
sets_outside im i vs k (inl h) = sets_below im i vs k h
sets_outside im i vs k (inr h) = sets_above im i vs k h

where_is : (i n k : ℕ) → ((i ≤ k) × (k < i + n)) ⊎ ((k < i) ⊎ (i + n ≤ k))
where_is i n k =
    elim (dec_le i k) [
      | yes p ↦ elim (dec_lt k (i + n)) [ yes q ↦ inl (p, q) | no q ↦ inr (inr (omega arith)) ]
      | no p ↦ inr (inl (omega arith))
    ]

-- outside a setting's words nothing changes
setting-outside : (c : Command) (im : List ℕ) → Setting c.row → Valid c → (k : ℕ) → (k < c.row.id) ⊎ (c.row.id + size c.row ≤ k)
    → get_or (apply c im) k 0 ≡ get_or im k 0
setting-outside c im s v k h =
    let l = setting-length c s v in
    let g : (k < c.row.id) ⊎ (c.row.id + length (c.header ∷ c.rest) ≤ k) = elim h [ inl a ↦ inl a | inr b ↦ inr (omega arith) ] in
    ap (λ (m : List ℕ). get_or m k 0) (apply-setting c im s.kind) ∙ sets_outside im c.row.id (c.header ∷ c.rest) k g

-- a setting leaves the words of every other
pub setting_other : (c : Command) (im : List ℕ) → Setting c.row → Valid c → (r : Row) → (r.id + size r ≤ c.row.id) ⊎ (c.row.id + size c.row ≤ r.id)
    → read (apply c im) r.id (size r) ≡ read im r.id (size r)
setting_other c im s v r h =
    read_cong (apply c im) im r.id (size r) (λ k p q.
    setting-outside c im s v k (elim h [ inl a ↦ inl (omega arith) | inr b ↦ inr (omega arith) ]))

module _ (fi im : List ℕ) (c : Command) (n : Near fi im) (v : Valid c) (s : Setting c.row) where
  close' : (k : ℕ) → (inside_any settings k ≡ true) ⊎ (get_or fi k 0 ≡ get_or (apply c im) k 0)
  close' k =
      elim (where_is c.row.id (size c.row) k) [
        | inl h ↦ inl (setting-inside c.row s k h.0 h.1)
        | inr h ↦ elim (n.close k) [ inl a ↦ inl a | inr b ↦ inr (b ∙ sym (setting-outside c im s v k h)) ]
      ]

  kept : (r : Row) → read (apply c im) r.id (size r) ≡ read im r.id (size r)
      → (read fi r.id (size r) ≡ read im r.id (size r)) ⊎ Valid (emit r im)
      → (read fi r.id (size r) ≡ read (apply c im) r.id (size r)) ⊎ Valid (emit r (apply c im))
  kept r e (inl a) = inl (a ∙ sym e)
  kept r e (inr b) = inr (subst Valid (sym (emit_cong r (apply c im) im e)) b)

  backed' : (r : Row) → Setting r → (read fi r.id (size r) ≡ read (apply c im) r.id (size r)) ⊎ Valid (emit r (apply c im))
  backed' r sr =
      elim (settings_apart r c.row sr s) [
        | inl e ↦ inr (subst Valid (sym (ap (λ (x : Row). emit x (apply c im)) e ∙ emit-own c im s v n.long_im)) v)
        | inr h ↦ kept r (setting_other c im s v r h) (n.backed r sr)
      ]

  pub near_setting : Near fi (apply c im)
  near_setting = record { long_fi = n.long_fi; long_im = length-apply c im ∙ n.long_im; close = close'; backed = backed' }

-- a word of the form's image while the settings of rs are still to be put out
Waits : List Row → List ℕ → List ℕ → List ℕ → ℕ → Type 0
Waits rs f fi im k = (get_or f k 0 ≡ get_or im k 0) ⊎ ((get_or f k 0 ≡ get_or fi k 0) × (inside_any rs k ≡ true))

module _ (r : Row) (rs : List Row) (f fi im : List ℕ) (k : ℕ) where
  -- r's words are the same already
  waits_same : read fi r.id (size r) ≡ read im r.id (size r) → Waits (r ∷ rs) f fi im k → Waits rs f fi im k
  unfolding Waits inside_any
  waits_same e (inl a) = inl a
  waits_same e (inr b) =
      (elim (inside r k) as (λ t. inside r k ≡ t → (get_or f k 0 ≡ get_or im k 0) ⊎ ((get_or f k 0 ≡ get_or fi k 0) × (inside_any rs k ≡ true))) [
        | true ↦ λ h. inl (b.0 ∙ read_at fi im r.id (size r) e k (inside-from r k h) (inside_to r k h))
        | false ↦ λ h. inr (b.0, or_false (inside r k) (inside_any rs k) b.1 h)
      ]) refl

  outside-not : (k < r.id) ⊎ (r.id + size r ≤ k) → inside r k ≡ false
  outside-not h =
      (elim (inside r k) as (λ t. inside r k ≡ t → t ≡ false) [
        | true ↦ λ e. let p = inside-from r k e in let q = inside_to r k e in absurd (elim h [ inl a ↦ omega arith | inr b ↦ omega arith ])
        | false ↦ λ e. refl
      ]) refl

  -- r is put out
  waits_put : Setting r → length f ≡ 256 → Waits (r ∷ rs) f fi im k → Waits rs (apply (emit r im) f) fi im k
  unfolding Waits inside_any
  waits_put s l w =
      let fits = setting-fits r s in
      let a : apply (emit r im) f ≡ sets f r.id (read im r.id (size r)) = apply-setting (emit r im) f s.kind in
      elim (where_is r.id (size r) k) [
        | inl h ↦ inl (ap (λ (m : List ℕ). get_or m k 0) a ∙ sets_read im f r.id (size r) k (omega arith) h.0 h.1)
        | inr h ↦
            let out : get_or (apply (emit r im) f) k 0 ≡ get_or f k 0 =
            ap (λ (m : List ℕ). get_or m k 0) a ∙ sets_outside f r.id (read im r.id (size r)) k
            (elim h [ inl x ↦ inl x | inr y ↦ inr (omega (arith, length-read im r.id (size r))) ]) in
            elim w [
              | inl x ↦ inl (out ∙ x)
              | inr y ↦ inr (out ∙ y.0, or_false (inside r k) (inside_any rs k) y.1 (outside-not h))
            ]
      ]

flush_at : (rs : List Row) (f fi im : List ℕ) (k : ℕ) → AllSettings rs → length f ≡ 256 → Waits rs f fi im k
    → get_or (final f (differing rs fi im)) k 0 ≡ get_or im k 0
unfolding Waits inside_any
flush_at [] f fi im k s l (inl a) = a
flush_at [] f fi im k s l (inr b) = cc
flush_at (r ∷ rs) f fi im k s l w =
    (elim (same r fi im) as (λ t. same r fi im ≡ t → get_or (final f (cond t (differing rs fi im) (emit r im ∷ differing rs fi im))) k 0 ≡ get_or im k 0) [
      | true ↦ λ e. flush_at rs f fi im k s.1 l (waits_same r rs f fi im k (equal-true _ _ e) w)
      | false ↦ λ e. flush_at rs (apply (emit r im) f) fi im k s.1 (length-apply (emit r im) f ∙ l) (waits_put r rs f fi im k s.0 l w)
    ]) refl

waits_all : (fi im : List ℕ) → Near fi im → (k : ℕ) → Waits settings fi fi im k
unfolding Waits
waits_all fi im n k = elim (n.close k) [ inl a ↦ inr (refl, a) | inr b ↦ inl b ]

pub flush : (fi im : List ℕ) → Near fi im → final fi (differing settings fi im) ≡ im
flush fi im n =
    ext_get_or 0 (final fi (differing settings fi im)) im (length-final fi (differing settings fi im) ∙ n.long_fi ∙ sym n.long_im)
    (λ k h. flush_at settings fi fi im k settings-all n.long_fi (waits_all fi im n k))

-- nothing to put out where the images are one
pub differing_none : (rs : List Row) (im : List ℕ) → differing rs im im ≡ []
differing_none [] im = refl
differing_none (r ∷ rs) im =
    let e : same r im im ≡ true = equal-refl (read im r.id (size r)) in
    rw e (differing_none rs im)

-- a work command leaves the words of every setting
module _ (r : Row) (sr : Setting r) (im : List ℕ) where
  set-outside : (i h : ℕ) → inside_any settings i ≡ false → read (set im i h) r.id (size r) ≡ read im r.id (size r)
  set-outside i h o =
      read_cong (set im i h) im r.id (size r) (λ k p q.
      get_or-set_other im i k h 0 (λ e. let z : ◌≡◌ {A = Bool} true false = sym (setting-inside r sr k p q) ∙ ap (inside_any settings) e ∙ o in let y : ◌≡◌ {A = ℕ} 0 1 = cc in omega arith))

  by_kind : (c : Command) → Valid c → (t : Kind) → c.row.kind ≡ t → is_setting t ≡ false
      → read (leave t c.row.id c.header c.rest im) r.id (size r) ≡ read im r.id (size r)
  by_kind c v setting e f = let z : ◌≡◌ {A = Bool} true false = f in let y : ◌≡◌ {A = ℕ} 0 1 = cc in absurd (omega arith)
  by_kind c v plain e f = refl
  by_kind c v keeps e f = set-outside c.row.id c.header (keeps_outside c.row v.found e)
  by_kind c v begins e f = set-outside 0x08 c.header (begins-outside c.row v.found e)

  pub work_other : (c : Command) → Valid c → is_setting c.row.kind ≡ false → read (apply c im) r.id (size r) ≡ read im r.id (size r)
  work_other c v f = by_kind c v c.row.kind refl f
