-- The command at a position of a list, by the tests that the code makes.
use Prim.Native.Nat.{ℕ, suc, ◌+◌, ◌^◌, ◌≤◌, ◌<◌, ◌-◌}
use native.Mathlib.Nat.{add-zero}
use native.Mathlib.Numerals.{add-one, add-two, add-three}
use native.Mathlib.Omega.{arith}
use mathlib.Core.Path.{◌≡◌, refl, ap, ap₂, sym, ◌∙◌}
use mathlib.Core.Bool.{Bool, true, false, cond}
use mathlib.Core.List.{List, ◌∷◌}
use mathlib.Core.Option.{none}
use lib.Dec.{ltb}
use Rattle.std.specs.Prelude.{Ok, Err}
use borrow.Author.Tests.{le-ltb, lt-ltb, ltb-true, ltb-false}
use lib.ListN.{length, get_or, take, drop, length-drop}
use lib.Seq.{drop-cons, length-take-le}
use Rattle.rules.specs.Verdict.{Refusal}
use Rattle.rules.specs.Word.{id_of, header_of, undefined, lowest_undefined}
use Rattle.rules.specs.Table.{row_of, is_setting, is_begin, is_base}
use Rattle.rules.specs.Command.{payload, rest_size}
use Rattle.rules.specs.Values.{refusal, undefined_bit, shift, first_fault, faults}
use Rattle.rules.specs.Decode.{Decoded, bad, good, unknown, decode_row, decode}
use Rattle.theory.proofs.Numbers.{faults_proper}
use Rattle.table.specs.declared.Group.{Group}
use Rattle.table.specs.Ids.{group_id}
use Rattle.table.specs.Tables.{more, group_at, row_count, row_number, row_at, mask_at}
use Rattle.values.specs.First.{no_refusal, first_refusal, found}
use Rattle.faults.specs.Faults.{own, any_undefined, first_undefined, value_fault}
use Rattle.command.specs.View.{size_at, refused_at, single_of, group_of, if_legal, whole_group, view, decoded_at, KnownAt}
use Rattle.table.proofs.Tables.{Known, known, unknown-row}
use Rattle.command.proofs.Sizes.{size-known, size-group, size-single}
use Rattle.faults.proofs.FirstFault.{fault-is, undefined-found, undefined-first, defined_next, single-fault, first-fault}

-- a group's words after the first
pub group-words : (l : List ℕ) (at : ℕ) → at + 4 ≤ length l → take 3 (drop (suc at) l) ≡ more (group_at l at)
group-words l at h =
    ap (take 3) (drop-cons l (suc at) 0 (omega arith) ∙ ap (λ (x : List ℕ). get_or l (suc at) 0 ∷ x)
    (drop-cons l (suc (suc at)) 0 (omega arith) ∙ ap (λ (x : List ℕ). get_or l (suc (suc at)) 0 ∷ x) (drop-cons l (suc (suc (suc at))) 0 (omega arith))))
    ∙ rw (add-one, add-two, add-three)

module _ (l : List ℕ) (at id : ℕ) (ei : id ≡ id_of (get_or l at 0)) (small : id < 256) where
  abbrev h : ℕ
  h = header_of (get_or l at 0)

  abbrev ws : List ℕ
  ws = drop (suc at) l

  -- 3 and 4
  pub decoded_unknown : row_count ≤ row_number id → decoded_at l at ≡ refused_at (unknown id) at
  unfolding decoded_at decode
  decoded_unknown n =
      let e : row_of (id_of (get_or l at 0)) ≡ none = ap row_of (sym ei) ∙ unknown-row id small n in
      rw (e, add-zero at) (ap (λ (i : ℕ). refused_at (unknown i) at) (sym ei))

  module _ (k : Known id) where
    row_decoded : decoded_at l at ≡ view at (decode_row (row_at id) h ws)
    unfolding decoded_at decode
    row_decoded = rw (← ei, k.found)

    own-length : (b : Bool) → length (row_at id).more ≡ cond b 3 0 → suc (length (row_at id).more) ≡ cond b 4 1
    own-length true e = omega arith
    own-length false e = omega arith

    -- 5
    pub decoded_cut : at < length l → length l - at < cond (group_id id) 4 1 → decoded_at l at ≡ refused_at 5 at
    unfolding decode_row
    decoded_cut inside cut =
        let n = own-length (group_id id) k.length_more in
        row_decoded ∙ rw (lt-ltb (length ws) (length (row_at id).more) (omega (arith, length-drop (suc at) l)), add-zero at)

    module _ (fits : at + cond (group_id id) 4 1 ≤ length l) where
      -- the first fault of the command
      unfoldable pub first_at : Refusal
      first_at = first_refusal (faults (row_at id) (header_of (get_or l at 0)) (own (row_at id) (group_at l at)))

      own_at : (b : Bool) → length (row_at id).more ≡ cond b 3 0 → at + cond b 4 1 ≤ length l → take (length (row_at id).more) ws ≡ own (row_at id) (group_at l at)
      own_at true e f = rw e (group-words l at f)
      own_at false e f = rw e

      abbrev whole : Decoded
      whole =
          cond (ltb (length ws) (rest_size (row_at id) h ws)) (bad (refusal 9 0)) (good (record { row = row_at id; header = h; rest = take (rest_size (row_at id) h ws) ws }))

      by_fault : decoded_at l at ≡ view at (cond (found first_at) (bad first_at) whole)
      unfolding decode_row first_at
      by_fault =
          let n = own-length (group_id id) k.length_more in
          let fs = faults (row_at id) h (own (row_at id) (group_at l at)) in
          row_decoded
          ∙ ap (λ (t : Bool). view at (cond t (bad (refusal 5 0)) (first_fault bad (faults (row_at id) h (take (length (row_at id).more) ws)) whole)))
          (le-ltb (length ws) (length (row_at id).more) (omega (arith, length-drop (suc at) l)))
          ∙ ap (λ (o : List ℕ). view at (first_fault bad (faults (row_at id) h o) whole)) (own_at (group_id id) k.length_more fits)
          ∙ ap (view at) (first-fault _ fs whole (faults_proper (row_at id) h (own (row_at id) (group_at l at))))

      -- 6, 7 and 15 to 19
      pub decoded_fault : found first_at ≡ true → decoded_at l at ≡ Err (shift at first_at)
      decoded_fault e = by_fault ∙ rw e

      module _ (clear : found first_at ≡ false) where
        no_fault : decoded_at l at ≡ view at whole
        no_fault = by_fault ∙ rw clear

        -- 9
        pub decoded_short : length l - at < size_at l at → decoded_at l at ≡ refused_at 9 at
        decoded_short cut =
            let e : size_at l at ≡ suc (rest_size (row_at id) h ws) = size-known l at id ei small k in
            let o = own-length (group_id id) k.length_more in
            no_fault ∙ rw (lt-ltb (length ws) (rest_size (row_at id) h ws) (omega (arith, length-drop (suc at) l)), add-zero at)

        pub decoded_command : size_at l at ≤ length l - at
            → decoded_at l at ≡ Ok (record { words = size_at l at; setting = is_setting (row_at id).kind; begin = is_begin (row_at id).kind; base = is_base id })
        decoded_command enough =
            let n : ℕ = rest_size (row_at id) h ws in
            let e : size_at l at ≡ suc n = size-known l at id ei small k in
            let o = own-length (group_id id) k.length_more in
            let f : n ≤ length ws = omega (arith, length-drop (suc at) l) in
            no_fault ∙ rw (le-ltb (length ws) n f)
            (ap₂ (λ (m i : ℕ). Ok (record { words = m; setting = is_setting (row_at id).kind; begin = is_begin (row_at id).kind; base = is_base i }))
            (ap suc (length-take-le n ws f) ∙ sym e) k.own-id)

-- ---- by the row of its id

module _ (l : List ℕ) (at : ℕ) (inside : at < length l) {w : ℕ} (ew : w ≡ get_or l at 0) {id : ℕ} (iw : id ≡ id_of w) {row : ℕ} (er : row ≡ row_number id) (fit : get_or l at 0 < 2 ^ 32) where
  ei : id ≡ id_of (get_or l at 0)
  ei = iw ∙ ap id_of ew

  small : id < 256
  small = omega (arith, ei, fit)

  pub at_unknown : row_count ≤ row → {n : ℕ} → n ≡ unknown id → {b : ℕ} → b ≡ 32 → Err (record { number = n; word = at; bit = b }) ≡ decoded_at l at
  at_unknown h em eb = rw eb (ap (λ (k : ℕ). refused_at k at) em) ∙ sym (decoded_unknown l at id ei small (omega (arith, er, h)))

  pub at_known : row < row_count → KnownAt l at id row
  at_known h = record { inside = inside; id-is = ei; row_is = er; known = h }

-- ---- a command of one word

module _ (l : List ℕ) (at id row : ℕ) (a : KnownAt l at id row) (small : id < 256) (single : group_id id ≡ false) where
  k₁ : Known id
  k₁ = known id small (omega (arith, a.row_is, a.known))

  fits_one : at + cond (group_id id) 4 1 ≤ length l
  fits_one = rw single (omega (arith, a.inside))

  module _ (header m : ℕ) (b : Bool) (eh : header ≡ header_of (get_or l at 0)) (em : m ≡ mask_at row 0) (eb : b ≡ undefined header m) where
    by_bit : first_at l at id a.id-is small k₁ fits_one ≡ cond b (undefined_bit 0 header m) no_refusal
    unfolding first_at
    by_bit = rw (k₁.length_more, single, eb, eh, em, a.row_is) (single-fault id (header_of (get_or l at 0)) k₁ single)

    -- 6
    pub decoded_single_bad : b ≡ true → decoded_at l at ≡ Err (record { number = 6; word = at; bit = lowest_undefined header m })
    decoded_single_bad t =
        let is : first_at l at id a.id-is small k₁ fits_one ≡ undefined_bit 0 header m = by_bit ∙ ap (λ (x : Bool). cond x (undefined_bit 0 header m) no_refusal) t in
        decoded_fault l at id a.id-is small k₁ fits_one (ap found is ∙ refl) ∙ ap (λ (x : Refusal). Err (shift at x)) is
        ∙ ap (λ (p : ℕ). Err (record { number = 6; word = p; bit = lowest_undefined header m })) (add-zero at)

    pub decoded_single : b ≡ false → decoded_at l at ≡ Ok (single_of row)
    decoded_single t =
        let one = size-single l at id a.id-is small single in
        let begin : is_begin (row_at id).kind ≡ false = rw single at k₁.apart in
        decoded_command l at id a.id-is small k₁ fits_one (ap found (by_bit ∙ ap (λ (x : Bool). cond x (undefined_bit 0 header m) no_refusal) t)) (omega (arith, a.inside))
        ∙ rw (one, begin, k₁.base, k₁.setting-row, single, a.row_is)

-- ---- a command of four

module _ (l : List ℕ) (at id row : ℕ) (a : KnownAt l at id row) (small : id < 256) (grouped : group_id id ≡ true) where
  k₄ : Known id
  k₄ = known id small (omega (arith, a.row_is, a.known))

  -- 5
  pub group_cut : length l < at + 4 → decoded_at l at ≡ refused_at 5 at
  group_cut c = decoded_cut l at id a.id-is small k₄ a.inside (rw grouped (omega (arith, a.inside)))

  module _ (four : at + 4 ≤ length l) (g : Group) (eg : g ≡ group_at l at) {b : Bool} (eb : b ≡ any_undefined row g) where
    fits_four : at + cond (group_id id) 4 1 ≤ length l
    fits_four = rw grouped four

    abbrev first_here : Refusal
    first_here = first_at l at id a.id-is small k₄ fits_four

    first-is : first_here ≡ first_undefined row g (value_fault id g)
    unfolding first_at
    first-is =
        ap (λ (x : Group). first_refusal (faults (row_at id) x.header (own (row_at id) x))) (sym eg)
        ∙ sym (ap (λ (n : ℕ). first_undefined n g (value_fault id g)) a.row_is ∙ fault-is id g k₄ grouped)

    -- 6
    pub group-undefined : b ≡ true → (f : Refusal) → f ≡ first_undefined row g no_refusal → decoded_at l at ≡ Err (shift at f)
    group-undefined t f ef =
        let u = sym eb ∙ t in
        let is : first_here ≡ first_undefined row g no_refusal = first-is ∙ undefined-first row g u (value_fault id g) in
        decoded_fault l at id a.id-is small k₄ fits_four (ap found is ∙ undefined-found row g u) ∙ ap (λ (x : Refusal). Err (shift at x)) (is ∙ sym ef)

    -- 7 and 15 to 19, then 9
    module _ (t : b ≡ false) (n : ℕ) (en : n ≡ payload id g.header (more g)) where
      value_is : first_here ≡ value_fault id g
      value_is = first-is ∙ defined_next row g (sym eb ∙ t) (value_fault id g)

      size_is : size_at l at ≡ 4 + n
      size_is =
          size-group l at id a.id-is small grouped
          ∙ ap (λ (x : ℕ). 4 + x) (sym (en ∙ ap (λ (x : Group). payload id x.header (more x)) eg))

      whole_is : found (value_fault id g) ≡ false → decoded_at l at ≡ whole_group l at (4 + n) row
      whole_is e =
          let clear = ap found value_is ∙ e in
          let base : is_base id ≡ false = rw grouped at k₄.apart in
          (elim (ltb (length l) (at + (4 + n))) as (λ t. ltb (length l) (at + (4 + n)) ≡ t → decoded_at l at ≡ cond t (refused_at 9 at) (Ok (group_of (4 + n) row))) [
            | true ↦ λ c. decoded_short l at id a.id-is small k₄ fits_four clear (omega (arith, ltb-true (length l) (at + (4 + n)) c, size_is, a.inside))
            | false ↦ λ c. decoded_command l at id a.id-is small k₄ fits_four clear (omega (arith, ltb-false (length l) (at + (4 + n)) c, size_is))
                ∙ rw (size_is, base, k₄.begins, k₄.setting-row, grouped, a.row_is)
          ]) refl

      pub group_valued : decoded_at l at ≡ if_legal at id g (whole_group l at (4 + n) row)
      group_valued =
          (elim (found (value_fault id g)) as (λ t. found (value_fault id g) ≡ t → decoded_at l at ≡ cond t (Err (shift at (value_fault id g))) (whole_group l at (4 + n) row)) [
            | true ↦ λ e. decoded_fault l at id a.id-is small k₄ fits_four (ap found value_is ∙ e) ∙ ap (λ (x : Refusal). Err (shift at x)) value_is
            | false ↦ λ e. whole_is e
          ]) refl

      -- one without payload
      pub group_fixed : n ≡ 0 → decoded_at l at ≡ if_legal at id g (Ok (group_of 4 row))
      group_fixed z = group_valued ∙ rw (z, le-ltb (length l) (at + 4) four)
