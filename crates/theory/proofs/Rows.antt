-- Facts of the table of commands, each one test over the whole table.
use Prim.Native.Nat.{ℕ, ◌+◌, ◌^◌, ◌≤◌, ◌<◌}
use native.Mathlib.Omega.{arith}
use mathlib.Core.Path.{◌≡◌, refl, ap, sym, ◌∙◌}
use mathlib.Core.Bool.{Bool, true, false, cond, not, ◌&&◌, ◌||◌}
use mathlib.Core.Logic.{◌⊎◌, inl, inr}
use mathlib.Core.List.{List, [], ◌∷◌}
use mathlib.Core.Option.{Option, some}
use lib.Dec.{eqb, leb, ltb}
use borrow.Author.Tests.{eqb-true, leb-true, ltb-true, le-leb, lt-ltb, not-true}
use Rattle.rules.specs.Table.{Kind, setting, plain, keeps, begins, Row, table, find, row_of, is_setting, is_base, size, only_settings, settings}
use Rattle.rules.specs.Command.{payload}
use Rattle.theory.proofs.Bools.{and_left, and_right, and-true, or_cases, or_left, or_right, implied}

abbrev pub every_row : (Row → Bool) → List Row → Bool
every_row p [] = true
every_row p (r ∷ rs) = p r && every_row p rs

pub found-step : (b : Bool) (s r : Row) (o : Option Row) → cond b (some s) o ≡ some r → ((b ≡ true) × (s ≡ r)) ⊎ (o ≡ some r)
found-step true s r o e = inl (refl, cc)
found-step false s r o e = inr e

pub found_passes : (p : Row → Bool) (rows : List Row) (i : ℕ) (r : Row) → every_row p rows ≡ true → find i rows ≡ some r → p r ≡ true
found_passes p [] i r t e = cc
found_passes p (s ∷ rs) i r t e =
    elim (found-step (eqb s.id i) s r (find i rs) e) [
      | inl h ↦ ap p (sym h.1) ∙ and_left (p s) (every_row p rs) t
      | inr h ↦ found_passes p rs i r (and_right (p s) (every_row p rs) t) h
    ]

-- every id is a byte
byte_id : Row → Bool
byte_id r = ltb r.id 256

pub row_small : (i : ℕ) (r : Row) → row_of i ≡ some r → r.id < 256
unfolding byte_id row_of table
row_small i r e = ltb-true _ _ (found_passes byte_id table i r refl e)

-- the mask of a header has no bit of the id
header_mask : Row → Bool
header_mask r = ltb r.mask (2 ^ 24)

pub row-mask : (i : ℕ) (r : Row) → row_of i ≡ some r → r.mask < 2 ^ 24
unfolding header_mask row_of table
row-mask i r e = ltb-true _ _ (found_passes header_mask table i r refl e)

-- a row of the table that is a setting
pub record Setting (r : Row) : Type 0 where
  pub found : row_of r.id ≡ some r
  pub kind : r.kind ≡ setting

-- a setting fits in the image, has no payload and is no surface base
setting_ok : Row → Bool
setting_ok r = not (is_setting r.kind) || (leb (r.id + size r) 256 && (not (eqb r.id 0x40) && not (is_base r.id)))

ok : (r : Row) → Setting r → (leb (r.id + size r) 256 && (not (eqb r.id 0x40) && not (is_base r.id))) ≡ true
unfolding setting_ok row_of table is_base
ok r s = implied (is_setting r.kind) _ (found_passes setting_ok table r.id r refl s.found) (ap is_setting s.kind)

pub setting-fits : (r : Row) → Setting r → r.id + size r ≤ 256
setting-fits r s = leb-true _ _ (and_left (leb (r.id + size r) 256) _ (ok r s))

pub setting-payload : (r : Row) → Setting r → (h : ℕ) (own : List ℕ) → payload r.id h own ≡ 0
unfolding payload
setting-payload r s h own =
    let e : eqb r.id 0x40 ≡ false = not-true _ (and_left (not (eqb r.id 0x40)) _ (and_right (leb (r.id + size r) 256) _ (ok r s))) in
    rw e

pub setting_base : (r : Row) → Setting r → is_base r.id ≡ false
setting_base r s = not-true _ (and_right (not (eqb r.id 0x40)) _ (and_right (leb (r.id + size r) 256) _ (ok r s)))

-- two settings are one, or lie apart
apart : Row → Row → Bool
apart r s = leb (r.id + size r) s.id || leb (s.id + size s) r.id

apart_ok : Row → Row → Bool
apart_ok r s = not (is_setting r.kind && is_setting s.kind) || (eqb r.id s.id || apart r s)

apart_all : Row → Bool
apart_all r = every_row (apart_ok r) table

apart_test : (r s : Row) → Setting r → Setting s → (eqb r.id s.id || apart r s) ≡ true
unfolding apart_ok apart_all apart row_of table
apart_test r s hr hs =
    implied (is_setting r.kind && is_setting s.kind) _
    (found_passes (apart_ok r) table s.id s (found_passes apart_all table r.id r refl hr.found) hs.found)
    (and-true (is_setting r.kind) (is_setting s.kind) (ap is_setting hr.kind) (ap is_setting hs.kind))

same_row : (r s : Row) → Setting r → Setting s → r.id ≡ s.id → r ≡ s
same_row r s hr hs e =
    let p : some r ≡ some s = sym hr.found ∙ ap row_of e ∙ hs.found in
    cc

pub settings_apart : (r s : Row) → Setting r → Setting s → (r ≡ s) ⊎ ((r.id + size r ≤ s.id) ⊎ (s.id + size s ≤ r.id))
unfolding apart
settings_apart r s hr hs =
    elim (or_cases (eqb r.id s.id) (apart r s) (apart_test r s hr hs)) [
      | inl e ↦ inl (same_row r s hr hs (eqb-true _ _ e))
      | inr e ↦ inr (elim (or_cases (leb (r.id + size r) s.id) (leb (s.id + size s) r.id) e) [
        | inl a ↦ inl (leb-true _ _ a)
        | inr a ↦ inr (leb-true _ _ a)
      ])
    ]

-- the settings' words
unfoldable pub inside : Row → ℕ → Bool
inside r k = leb r.id k && ltb k (r.id + size r)

unfoldable pub inside_any : List Row → ℕ → Bool
inside_any [] k = false
inside_any (r ∷ rs) k = inside r k || inside_any rs k

pub inside-from : (r : Row) (k : ℕ) → inside r k ≡ true → r.id ≤ k
unfolding inside
inside-from r k e = leb-true _ _ (and_left (leb r.id k) _ e)

pub inside_to : (r : Row) (k : ℕ) → inside r k ≡ true → k < r.id + size r
unfolding inside
inside_to r k e = ltb-true _ _ (and_right (leb r.id k) _ e)

pub inside_of : (r : Row) (k : ℕ) → r.id ≤ k → k < r.id + size r → inside r k ≡ true
unfolding inside
inside_of r k p q = and-true (leb r.id k) _ (le-leb _ _ p) (lt-ltb _ _ q)

inside_any_cons : (r s : Row) (rs : List Row) (k : ℕ) (b : Bool) → (b ≡ false → r ≡ s → ⊥) → (inside_any rs k ≡ true) ⊎ ((r ≡ s) × (inside r k ≡ true))
    → inside_any (cond b (s ∷ rs) rs) k ≡ true
unfolding inside_any
inside_any_cons r s rs k true n (inl h) = or_right (inside s k) _ h
inside_any_cons r s rs k true n (inr h) = or_left (inside s k) _ (ap (λ (x : Row). inside x k) (sym h.0) ∙ h.1)
inside_any_cons r s rs k false n (inl h) = h
inside_any_cons r s rs k false n (inr h) = absurd (n refl h.0)

found_inside : (rows : List Row) (i : ℕ) (r : Row) (k : ℕ) → find i rows ≡ some r → r.kind ≡ setting → inside r k ≡ true
    → inside_any (only_settings rows) k ≡ true
found_inside [] i r k e s h = cc
found_inside (x ∷ rs) i r k e s h =
    inside_any_cons r x (only_settings rs) k (is_setting x.kind)
    (λ f g. let z : ◌≡◌ {A = Bool} true false = ap is_setting (sym s) ∙ ap (λ (y : Row). is_setting y.kind) g ∙ f in
    let w : ◌≡◌ {A = ℕ} 0 1 = cc in omega arith)
    (elim (found-step (eqb x.id i) x r (find i rs) e) [
      | inl g ↦ inr (sym g.1, h)
      | inr g ↦ inl (found_inside rs i r k g s h)
    ])

pub setting-inside : (r : Row) → Setting r → (k : ℕ) → r.id ≤ k → k < r.id + size r → inside_any settings k ≡ true
unfolding settings row_of
setting-inside r s k p q = found_inside table r.id r k s.found s.kind (inside_of r k p q)

-- each row of the list of settings is a setting of the table
abbrev pub AllSettings : List Row → Type 0
AllSettings [] = Unit {0}
AllSettings (r ∷ rs) = Setting r × AllSettings rs

pub settings-all : AllSettings settings
unfolding settings table row_of
settings-all = search tt

-- each setting stands once in the list of settings
unfoldable pub size_at : ℕ → List Row → ℕ
size_at i [] = 0
size_at i (r ∷ rs) = cond (eqb r.id i) (size r) 0 + size_at i rs

once_ok : Row → Bool
once_ok s = not (is_setting s.kind) || leb (size_at s.id settings) (size s)

pub setting_once : (s : Row) → Setting s → size_at s.id settings ≤ size s
unfolding once_ok size_at settings row_of table
setting_once s hs =
    leb-true _ _ (implied (is_setting s.kind) _ (found_passes once_ok table s.id s refl hs.found) (ap is_setting hs.kind))

-- the settings stand in rising id
abbrev pub rising : List Row → Bool
rising [] = true
rising (r ∷ []) = true
rising (r ∷ s ∷ rs) = ltb r.id s.id && rising (s ∷ rs)

pub settings-rising : rising settings ≡ true
unfolding settings table
settings-rising = refl

-- no work command's header goes to a setting's word
outside_ok : Kind → ℕ → Bool
outside_ok setting id = true
outside_ok plain id = true
outside_ok keeps id = not (inside_any settings id)
outside_ok begins id = not (inside_any settings 0x08)

row_outside : Row → Bool
row_outside r = outside_ok r.kind r.id

row-outside : (r : Row) → row_of r.id ≡ some r → outside_ok r.kind r.id ≡ true
unfolding outside_ok row_outside row_of table settings inside inside_any
row-outside r e = found_passes row_outside table r.id r refl e

pub keeps_outside : (r : Row) → row_of r.id ≡ some r → r.kind ≡ keeps → inside_any settings r.id ≡ false
unfolding outside_ok
keeps_outside r e k = not-true (inside_any settings r.id) (ap (λ (t : Kind). outside_ok t r.id) (sym k) ∙ row-outside r e)

pub begins-outside : (r : Row) → row_of r.id ≡ some r → r.kind ≡ begins → inside_any settings 0x08 ≡ false
unfolding outside_ok
begins-outside r e k = not-true (inside_any settings 0x08) (ap (λ (t : Kind). outside_ok t r.id) (sym k) ∙ row-outside r e)
