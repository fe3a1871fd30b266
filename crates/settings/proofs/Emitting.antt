-- The settings put out: those of the numbers in `changed` that differ are all that differ.
use Prim.Native.Nat.{ℕ, zero, suc, ◌+◌, ◌-◌, ◌/◌, ◌%◌, ◌^◌, ◌≤◌, ◌<◌}
use native.Mathlib.Nat.{add-zero, zero-add}
use native.Mathlib.Numerals.{add-one}
use native.Mathlib.Omega.{arith}
use native.Mathlib.Decide.{ℕ_discrete, dec_lt}
use mathlib.Core.Path.{◌≡◌, refl, ap, ap₂, sym, ◌∙◌, subst}
use mathlib.Core.Bool.{Bool, true, false, cond, ◌&&◌}
use mathlib.Core.Logic.{◌⊎◌, inl, inr}
use mathlib.Core.List.{List, [], ◌∷◌, ◌++◌, append_assoc, append-nil}
use Rattle.std.proofs.lemmas.List.{map-set}
use mathlib.Core.Option.{Option, none, some}
use lib.Bits.{bit_and, and_le_l}
use lib.Count.{count_trailing_zeros}
use lib.Dec.{eqb, ltb}
use lib.ListN.{length, get_or, set, take, drop, length-append, length-set, get_or-map}
use lib.Pow.{high, low, shr-shr}
use lib.Seq.{sets, map-set_same, get_or-set_same, get_or-set_other}
use borrow.Author.Tests.{eqb-true, eqb-false, eq-eqb, ne_eqb, lt-ltb, le-ltb}
use Rattle.rules.specs.Word.{id_of, header_of, first_word}
use Rattle.rules.specs.Table.{Row, size, settings}
use Rattle.rules.specs.Command.{Command, words, words_all}
use Rattle.rules.specs.Form.{read, equal, same, emit, differing}
use Rattle.theory.proofs.Image.{sets_append, equal-true, equal-refl, length-read}
use Rattle.theory.proofs.Rows.{setting-fits}
use Rattle.rules.specs.Valid.{Valid}
use Rattle.theory.proofs.Differing.{emit_cong}
use Rattle.theory.proofs.Form.{words_all_append}
use Rattle.settings.specs.Numbers.{odd, holds, numbers}
use Rattle.settings.specs.Output.{longest, Output, put, is_built, put_one, emit_one, emit_all, emit_changed, CanEmit, CanEmitAll, CanEmitChanged}
use Rattle.settings.specs.declared.Places.{Places}
use Rattle.settings.specs.declared.Memory.{Memory}
use Rattle.settings.specs.Remembered.{latest_of, sent_of}
use Rattle.settings.proofs.Slices.{read_take}
use Rattle.settings.proofs.Numbers.{numbers_none, lowest_off, numbers_low, holds_at, setting_of, row_list, settings_from, settings_by_number, setting_of_lem}

-- ---- what the code does for one setting

module _ (more : ℕ) (l image : List ℕ) (m : Memory) (k n : ℕ) (out : List ℕ) (can : CanEmit more l image (latest_of m) k (put n (sent_of m) out)) where
  abbrev places : Places
  places = get_or m.places k (record { latest = 0; sent = 0 })

  -- the setting's command
  abbrev command : List ℕ
  command = take (places.latest + 1 + more - places.latest) (drop places.latest l)

  abbrev is : Bool
  is = is_built (length command - 1) l image (get_or command 0 0) (drop 1 command) places.sent

  latest-at : get_or (latest_of m) k 0 ≡ places.latest
  latest-at = get_or-map (λ (p : Places). p.latest) m.places k (record { latest = 0; sent = 0 })

  sent-at : get_or (sent_of m) k 0 ≡ places.sent
  sent-at = get_or-map (λ (p : Places). p.sent) m.places k (record { latest = 0; sent = 0 })

  pub command_is : command ≡ read l places.latest (suc more)
  command_is =
      let n : places.latest + 1 + more - places.latest ≡ suc more = omega arith in
      rw n (read_take l places.latest (suc more) (omega (arith, latest-at)))

  built_is : is ≡ is_built more l image (get_or l places.latest 0) (read l (suc places.latest) more) places.sent
  built_is =
      let n : length command - 1 ≡ more = omega (arith, ap length command_is, length-read l places.latest (suc more)) in
      rw (n, command_is)

  pub emit-kept : is ≡ true → put n (sent_of m) out ≡ emit_one more l image (latest_of m) k (put n (sent_of m) out)
  unfolding emit_one
  emit-kept f = rw (latest-at, sent-at, ← built_is, f)

  pub emit-put : is ≡ false → (out' : List ℕ) → out' ≡ sets out n command
      → put (n + 1 + more) (sent_of (record m { places = set m.places k (record { latest = places.latest; sent = places.latest + 1 }) })) out'
      ≡ emit_one more l image (latest_of m) k (put n (sent_of m) out)
  unfolding emit_one
  emit-put f out' eo =
      let s : n + 1 + more ≡ n + suc more = omega arith in
      rw (latest-at, sent-at, ← built_is, f, eo, command_is, s, map-set)

  pub latest-kept : latest_of (record m { places = set m.places k (record { latest = places.latest; sent = places.latest + 1 }) }) ≡ latest_of m
  latest-kept = map-set_same (λ (p : Places). p.latest) m.places k _ (record { latest = 0; sent = 0 }) refl

-- the loop over the numbers of a set
pub record ToEmit (more first : ℕ) (l image latest : List ℕ) (left₀ : ℕ) (o₀ : Output) (left : ℕ) (o : Output) : Type 0 where
  pub small : left < 2 ^ 64
  pub can : CanEmitAll more l image latest (numbers 64 first left) o
  pub result : emit_all more l image latest (numbers 64 first left) o ≡ emit_all more l image latest (numbers 64 first left₀) o₀

module _ {more first : ℕ} {l image latest : List ℕ} {left₀ : ℕ} {o₀ : Output} {left : ℕ} {o : Output} (t : ToEmit more first l image latest left₀ o₀ left o) where
  pub to_emit_end : left ≡ 0 → o ≡ emit_all more l image latest (numbers 64 first left₀) o₀
  to_emit_end e = rw (e, numbers_none 64 first) at t.result

  module _ (ne : left ≡ 0 → ⊥) where
    pub to_emit_now : CanEmit more l image latest (first + count_trailing_zeros 64 left) o
    to_emit_now = (rw (lowest_off 64 first left t.small ne) at t.can).0

    pub to_emit_less : length (numbers 64 first (bit_and left (left - 1))) < length (numbers 64 first left)
    to_emit_less = omega (arith, ap length (lowest_off 64 first left t.small ne))

    pub to_emit_on : (o' : Output) → o' ≡ emit_one more l image latest (first + count_trailing_zeros 64 left) o
        → ToEmit more first l image latest left₀ o₀ (bit_and left (left - 1)) o'
    to_emit_on o' e =
        rw e (record {
          small = omega (arith, and_le_l left (left - 1), t.small);
          can = (rw (lowest_off 64 first left t.small ne) at t.can).1;
          result = rw (lowest_off 64 first left t.small ne) at t.result;
        })

pub emit_both : (changed : ℕ) (l image latest : List ℕ) (o o₁ o₂ : Output) → o₁ ≡ emit_all 0 l image latest (numbers 64 0 (changed % 65536)) o
    → o₂ ≡ emit_all 3 l image latest (numbers 64 16 (changed / 65536)) o₁ → o₂ ≡ emit_changed changed l image latest o
unfolding emit_changed
emit_both changed l image latest o o₁ o₂ e₁ e₂ = e₂ ∙ ap (emit_all 3 l image latest (numbers 64 16 (changed / 65536))) e₁

-- where nothing is set nothing is put out
pub emit_none : (changed : ℕ) (l image latest : List ℕ) (o : Output) → changed ≡ 0 → o ≡ emit_changed changed l image latest o
unfolding emit_changed
emit_none changed l image latest o e = rw (e, numbers_none 64 0, numbers_none 64 16)

-- ---- one setting

-- the command at a position of the list sets a setting to what an image has
pub record SetAt (l : List ℕ) (at : ℕ) (r : Row) (im : List ℕ) : Type 0 where
  pub words_are : read l at (size r) ≡ words (emit r im)
  pub valid : Valid (emit r im)
  pub inside : at + size r ≤ length l

-- an image has what the form has built of a setting, by where its command stands that was last put out
abbrev pub Sent : List ℕ → List ℕ → List ℕ → Row → ℕ → Type 0
Sent l image₀ im r before =
    ((before ≡ 0) × (read image₀ r.id (size r) ≡ read im r.id (size r))) ⊎ ((p : ℕ) × (before ≡ suc p) × SetAt l p r im)

module _ (l : List ℕ) (r : Row) (a b : List ℕ) (e : read a r.id (size r) ≡ read b r.id (size r)) where
  pub set_cong : (at : ℕ) → SetAt l at r a → SetAt l at r b
  set_cong at s =
      let c = emit_cong r a b e in
      record { words_are = s.words_are ∙ ap words c; valid = subst Valid c s.valid; inside = s.inside }

  pub sent_cong : (image₀ : List ℕ) (before : ℕ) → Sent l image₀ a r before → Sent l image₀ b r before
  sent_cong image₀ before (inl h) = inl (h.0, h.1 ∙ e)
  sent_cong image₀ before (inr h) = inr (h.0, h.1, set_cong h.0 h.2)

first-eqb : (i a b : ℕ) → eqb (first_word i a) (first_word i b) ≡ eqb a b
first-eqb i a b =
    (elim (eqb a b) as (λ t. eqb a b ≡ t → eqb (first_word i a) (first_word i b) ≡ t) [
      | true ↦ λ e. eq-eqb _ _ (ap (first_word i) (eqb-true a b e))
      | false ↦ λ e. let n = eqb-false a b e in ne_eqb (first_word i a) (first_word i b) (λ z. n (omega arith))
    ]) refl

module _ (l image₀ built image : List ℕ) (r : Row) (at before : ℕ) (s : SetAt l at r image) where
  first : get_or l at 0 ≡ first_word r.id (get_or image r.id 0)
  first = let w = s.words_are in cc

  set-id : id_of (get_or l at 0) ≡ r.id
  set-id = ap id_of first ∙ high r.id 24 s.valid.small

  -- the test of the code is that of the form
  is_built_lem : Sent l image₀ built r before → is_built (length r.more) l image₀ (get_or l at 0) (read l (suc at) (length r.more)) before ≡ same r built image
  unfolding is_built
  is_built_lem (inl h) =
      let w = s.words_are in
      let rest : read l (suc at) (length r.more) ≡ read image (suc r.id) (length r.more) = cc in
      let header : header_of (get_or l at 0) ≡ get_or image r.id 0 = ap header_of first ∙ low r.id 24 s.valid.small in
      rw (h.0, set-id, header, rest) (ap (λ (x : List ℕ). equal x (read image r.id (size r))) h.1)
  is_built_lem (inr h) =
      let p : before - 1 ≡ h.0 = omega (arith, h.1) in
      let ne : eqb before 0 ≡ false = ne_eqb before 0 (omega (arith, h.1)) in
      rw (ne, p)
      (ap₂ equal h.2.words_are s.words_are
      ∙ ap (λ (t : Bool). t && equal (read built (suc r.id) (length r.more)) (read image (suc r.id) (length r.more)))
      (first-eqb r.id (get_or built r.id 0) (get_or image r.id 0)))

-- ---- the numbers one after the other

-- where a setting was last set: where its number is in `changed` its command has the list's image, else nothing differs
abbrev pub LatestAt : List ℕ → List ℕ → List ℕ → Option Row → Bool → ℕ → Type 0
LatestAt l built image none b at = b ≡ false
LatestAt l built image (some r) true at = SetAt l at r image
LatestAt l built image (some r) false at = read built r.id (size r) ≡ read image r.id (size r)

abbrev pub Latest : List ℕ → List ℕ → List ℕ → ℕ → List ℕ → Type 0
Latest l built image changed latest = (k : ℕ) → LatestAt l built image (setting_of k) (holds changed k) (get_or latest k 0)

-- the form written so far, with the image that it has built by number
pub record Progress (l image₀ start : List ℕ) (formed : ℕ → List ℕ) (so_far : List ℕ) (o : Output) : Type 0 where
  pub long : length o.sent ≡ 64
  pub written_is : o.written ≡ length so_far
  pub out-is : o.out ≡ sets start 0 so_far
  pub sent_is : (k : ℕ) (r : Row) → setting_of k ≡ some r → Sent l image₀ (formed k) r (get_or o.sent k 0)

same_read : (r : Row) (a b : List ℕ) → read a r.id (size r) ≡ read b r.id (size r) → same r a b ≡ true
same_read r a b e = ap (λ (x : List ℕ). equal x (read b r.id (size r))) e ∙ equal-refl (read b r.id (size r))

differing_append : (rs qs : List Row) (a b : List ℕ) → differing (rs ++ qs) a b ≡ differing rs a b ++ differing qs a b
differing_append [] qs a b = refl
differing_append (r ∷ rs) qs a b =
    elim (same r a b) as (λ t. cond t (differing (rs ++ qs) a b) (emit r b ∷ differing (rs ++ qs) a b)
    ≡ cond t (differing rs a b) (emit r b ∷ differing rs a b) ++ differing qs a b) [
      | true ↦ differing_append rs qs a b
      | false ↦ ap (λ (x : List Command). emit r b ∷ x) (differing_append rs qs a b)
    ]

module _ (l image₀ built image start latest : List ℕ) (changed : ℕ) where
  abbrev put_out : List Row → List ℕ
  put_out rs = words_all (differing rs built image)

  -- the settings below a number are put_out out
  abbrev At : ℕ → List ℕ → Output → Type 0
  At below so_far o = Progress l image₀ start (λ k. cond (ltb k below) image built) so_far o

  put_append : (so_far : List ℕ) (rs qs : List Row) → (so_far ++ put_out rs) ++ put_out qs ≡ so_far ++ put_out (rs ++ qs)
  put_append so_far rs qs =
      append_assoc so_far (put_out rs) (put_out qs)
      ∙ ap (λ (x : List ℕ). so_far ++ x) (sym (ap words_all (differing_append rs qs built image) ∙ words_all_append (differing rs built image) (differing qs built image)))

  chosen_sent : (b b' : Bool) (r : Row) (before : ℕ) → b ≡ b' → Sent l image₀ (cond b' image built) r before → Sent l image₀ (cond b image built) r before
  chosen_sent b b' r before e h = subst (λ (t : Bool). Sent l image₀ (cond t image built) r before) (sym e) h

  -- one number on: the others keep their places
  next-sent : (k : ℕ) (sent sent' : List ℕ) → ((j : ℕ) → (j ≡ k → ⊥) → get_or sent' j 0 ≡ get_or sent j 0)
      → ((r : Row) → setting_of k ≡ some r → Sent l image₀ image r (get_or sent' k 0))
      → ((j : ℕ) (r : Row) → setting_of j ≡ some r → Sent l image₀ (cond (ltb j k) image built) r (get_or sent j 0))
      → (j : ℕ) (r : Row) → setting_of j ≡ some r → Sent l image₀ (cond (ltb j (suc k)) image built) r (get_or sent' j 0)
  next-sent k sent sent' keep new old j r e =
      elim (ℕ_discrete j k) [
        | yes q ↦ subst (λ (i : ℕ). Sent l image₀ (cond (ltb i (suc k)) image built) r (get_or sent' i 0)) (sym q)
            (chosen_sent (ltb k (suc k)) true r (get_or sent' k 0) (lt-ltb k (suc k) (omega arith)) (new r (ap setting_of (sym q) ∙ e)))
        | no q ↦ subst (λ (t : ℕ). Sent l image₀ (cond (ltb j (suc k)) image built) r t) (sym (keep j q)) (elim (dec_lt j k) [
          | yes p ↦ chosen_sent (ltb j (suc k)) (ltb j k) r (get_or sent j 0) (lt-ltb j (suc k) (omega arith) ∙ sym (lt-ltb j k p)) (old j r e)
          | no p ↦ chosen_sent (ltb j (suc k)) (ltb j k) r (get_or sent j 0) (le-ltb j (suc k) (omega arith) ∙ sym (le-ltb j k (omega arith))) (old j r e)
        ])
      ]

  module _ (k : ℕ) (so_far : List ℕ) (o : Output) (p : At k so_far o) where
    here : (r : Row) → setting_of k ≡ some r → Sent l image₀ built r (get_or o.sent k 0)
    here r e = chosen_sent false (ltb k k) r (get_or o.sent k 0) (sym (le-ltb k k (omega arith))) (p.sent_is k r e)

    -- nothing put_out out
    kept : (rs : List Row) → differing rs built image ≡ [] → ((r : Row) → setting_of k ≡ some r → read built r.id (size r) ≡ read image r.id (size r))
        → At (suc k) (so_far ++ put_out rs) o
    kept rs none-put eq =
        rw (none-put, append-nil) (record {
          long = p.long;
          written_is = p.written_is;
          out-is = p.out-is;
          sent_is = next-sent k o.sent o.sent (λ j n. refl) (λ r e. sent_cong l r built image (eq r e) image₀ (get_or o.sent k 0) (here r e)) p.sent_is;
        })

    module _ (r : Row) (e : setting_of k ≡ some r) where
      only : (P : Row → Type 0) → P r → (q : Row) → setting_of k ≡ some q → P q
      only P x q f = let z : some r ≡ some q = sym e ∙ f in let w : r ≡ q = cc in subst P w x

      abbrev SameRead : Row → Type 0
      SameRead q = read built q.id (size q) ≡ read image q.id (size q)

      chosen : SetAt l (get_or latest k 0) r image → (b : Bool) → same r built image ≡ b
          → At (suc k) (so_far ++ words_all (cond b [] (emit r image ∷ []))) (cond {A = Output} b o (put_one (length r.more) l latest k o))
      chosen s true f = kept [] refl (only SameRead (equal-true _ _ f))
      chosen s false f =
          let n = setting_of_lem k r e in
          let w = append-nil (words (emit r image)) in
          let at : ℕ = get_or latest k 0 in
          let new : get_or (set o.sent k (at + 1)) k 0 ≡ suc at = get_or-set_same o.sent k (at + 1) 0 (omega (arith, p.long, n.small)) ∙ add-one at in
          rw w (record {
            long = length-set o.sent k (at + 1) ∙ p.long;
            written_is = omega (arith, p.written_is, length-append so_far (words (emit r image)), length-read image (suc r.id) (length r.more));
            out-is = ap₂ (λ (x : List ℕ) (j : ℕ). sets x j (read l at (size r))) p.out-is (p.written_is ∙ sym (zero-add (length so_far)))
                ∙ ap (sets (sets start 0 so_far) (0 + length so_far)) s.words_are ∙ sym (sets_append start 0 so_far (words (emit r image)));
            sent_is = next-sent k o.sent (set o.sent k (at + 1)) (λ j d. get_or-set_other o.sent k j (at + 1) 0 d)
                (only (λ q. Sent l image₀ image q (get_or (set o.sent k (at + 1)) k 0)) (inr (at, new, s))) p.sent_is;
          })

      put_one_lem : SetAt l (get_or latest k 0) r image → At (suc k) (so_far ++ put_out (r ∷ [])) (emit_one (length r.more) l image₀ latest k o)
      unfolding emit_one
      put_one_lem s = rw (is_built_lem l image₀ built image r (get_or latest k 0) (get_or o.sent k 0) s (here r e)) (chosen s (same r built image) refl)

      sent-inside : SetAt l (get_or latest k 0) r image → Sent l image₀ built r (get_or o.sent k 0) → get_or o.sent k 0 + length r.more ≤ length l
      sent-inside s (inl h) = omega (arith, h.0, s.inside)
      sent-inside s (inr h) = omega (arith, h.1, h.2.inside)

    -- a number that is not in the set is a setting that is the same, or no setting
    one : length l ≤ longest → length image₀ ≡ 256 → o.written ≤ longest → (more : ℕ) → ((r : Row) → setting_of k ≡ some r → length r.more ≡ more)
        → (q : Option Row) → setting_of k ≡ q → (b : Bool) → LatestAt l built image q b (get_or latest k 0)
        → At (suc k) (so_far ++ put_out (row_list q)) (emit_all more l image₀ latest (cond b (k ∷ []) []) o) × CanEmitAll more l image₀ latest (cond b (k ∷ []) []) o
    one few whole enough more fit none e true h = let z : ◌≡◌ {A = ℕ} 0 1 = cc in absurd (omega arith)
    one few whole enough more fit none e false h = (kept [] refl (λ r f. let z : none ≡ some r = sym e ∙ f in let y : ◌≡◌ {A = ℕ} 0 1 = cc in absurd (omega arith)), tt)
    one few whole enough more fit (some r) e false h = (kept (r ∷ []) (rw (same_read r built image h)) (only r e (SameRead r e) h), tt)
    one few whole enough more fit (some r) e true h =
        let n = setting_of_lem k r e in
        let m = fit r e in
        let i = set-id l image₀ built image r (get_or latest k 0) 0 h in (
          subst (λ (j : ℕ). At (suc k) (so_far ++ put_out (r ∷ [])) (emit_one j l image₀ latest k o)) m (put_one_lem r e h),
          (
            record {
              few = few;
              number = n.small;
              inside = omega (arith, h.inside);
              in_image = omega (arith, setting-fits r n.setting);
              sent-inside = omega (arith, sent-inside r e h (here r e));
              fits = enough;
            },
            tt,
          ),
        )

  module _ (few : length l ≤ longest) (whole : length image₀ ≡ 256) (is : Latest l built image changed latest) (more : ℕ) where
    abbrev Runs : ℕ → ℕ → List ℕ → Output → List ℕ → Type 0
    Runs n k so_far o ks = At (k + n) (so_far ++ put_out (settings_from n k)) (emit_all more l image₀ latest ks o) × CanEmitAll more l image₀ latest ks o

    module _ (n k : ℕ) (so_far : List ℕ) (o : Output) (p : At k so_far o) (enough : length (so_far ++ put_out (settings_from (suc n) k)) ≤ longest)
        (fit : (r : Row) → setting_of k ≡ some r → length r.more ≡ more) where
      abbrev now : List ℕ
      now = so_far ++ put_out (row_list (setting_of k))

      whole-put : now ++ put_out (settings_from n (suc k)) ≡ so_far ++ put_out (settings_from (suc n) k)
      whole-put = put_append so_far (row_list (setting_of k)) (settings_from n (suc k))

      next : suc k + n ≡ k + suc n
      next = omega arith

      run-one : (ks : List ℕ) → ((o' : Output) → At (suc k) now o' → Runs n (suc k) now o' ks)
          → (b : Bool) → holds changed k ≡ b → Runs (suc n) k so_far o (cond b (k ∷ ks) ks)
      run-one ks ih b h = by_bit b (one k so_far o p few whole (omega (arith, p.written_is, length-append so_far (put_out (settings_from (suc n) k)))) more fit (setting_of k) refl b (rw h at (is k)))
        where
          by_bit : (b : Bool) → At (suc k) now (emit_all more l image₀ latest (cond b (k ∷ []) []) o) × CanEmitAll more l image₀ latest (cond b (k ∷ []) []) o
              → Runs (suc n) k so_far o (cond b (k ∷ ks) ks)
          by_bit true q = let r = ih (emit_one more l image₀ latest k o) q.0 in (rw (whole-put, next) at r.0, (q.1.0, r.1))
          by_bit false q = let r = ih o q.0 in (rw (whole-put, next) at r.0, r.1)

    run : (n k : ℕ) (so_far : List ℕ) (o : Output) → ((j : ℕ) (r : Row) → k ≤ j → j < k + n → setting_of j ≡ some r → length r.more ≡ more)
        → At k so_far o → length (so_far ++ put_out (settings_from n k)) ≤ longest → Runs n k so_far o (numbers n k (changed / 2 ^ k))
    unfolding numbers
    run zero k so_far o fit p enough = (rw (add-zero, append-nil) p, tt)
    run (suc n) k so_far o fit p enough =
        let half : changed / 2 ^ k / 2 ≡ changed / 2 ^ suc k = rw add-one at (shr-shr changed k 1) in
        let e = whole-put n k so_far o p enough (λ r. fit k r (omega arith) (omega arith)) in
        rw half (run-one n k so_far o p enough (λ r. fit k r (omega arith) (omega arith)) (numbers n (suc k) (changed / 2 ^ suc k))
        (λ o' p'. run n (suc k) (now n k so_far o p enough (λ r. fit k r (omega arith) (omega arith))) o' (λ j r a b. fit j r (omega arith) (omega arith)) p' (rw e enough))
        (odd (changed / 2 ^ k)) (holds_at changed k))

  pub emit-all : length l ≤ longest → length image₀ ≡ 256 → Latest l built image changed latest → (so_far : List ℕ) (o : Output)
      → Progress l image₀ start (λ k. built) so_far o → length (so_far ++ put_out settings) ≤ longest
      → Progress l image₀ start (λ k. image) (so_far ++ put_out settings) (emit_changed changed l image₀ latest o) × CanEmitChanged changed l image₀ latest o
  unfolding emit_changed
  emit-all few whole is so_far o p enough =
      let e : (so_far ++ put_out (settings_from 16 0)) ++ put_out (settings_from 64 16) ≡ so_far ++ put_out settings =
      put_append so_far (settings_from 16 0) (settings_from 64 16) ∙ ap (λ (x : List Row). so_far ++ put_out x) (sym settings_by_number) in
      let x : numbers 16 0 (changed / 1) ≡ numbers 64 0 (changed % 65536) =
      let z : changed / 1 ≡ changed = omega arith in ap (numbers 16 0) z ∙ sym (numbers_low 48 16 0 changed) in
      let p₀ : At 0 so_far o = record { long = p.long; written_is = p.written_is; out-is = p.out-is; sent_is = λ k r f. chosen_sent (ltb k 0) false r (get_or o.sent k 0) (le-ltb k 0 (omega arith)) (p.sent_is k r f) } in
      let a = run few whole is 0 16 0 so_far o (λ j r b c f. (setting_of_lem j r f).more ∙ rw (lt-ltb j 16 (omega arith))) p₀
      (omega (arith, ap length e, length-append (so_far ++ put_out (settings_from 16 0)) (put_out (settings_from 64 16)))) in
      let b = run few whole is 3 64 16 (so_far ++ put_out (settings_from 16 0)) (emit_all 0 l image₀ latest (numbers 16 0 (changed / 1)) o)
      (λ j r b c f. (setting_of_lem j r f).more ∙ rw (le-ltb j 16 (omega arith))) a.0 (rw e enough) in
      let q = rw (x, e) at b.0 in (
        record { long = q.long; written_is = q.written_is; out-is = q.out-is; sent_is = λ k r f. chosen_sent true (ltb k 80) r (get_or (emit_changed changed l image₀ latest o).sent k 0) (sym (lt-ltb k 80 (omega (arith, (setting_of_lem k r f).small)))) (q.sent_is k r f) },
        record { singles = rw x at a.1; groups = rw x at b.1 },
      )
