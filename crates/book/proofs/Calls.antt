-- The whole calls, by what the steps tell.
use Rattle.std.proofs.Common.{◌≡◌, ℕ, suc, ◌+◌, ◌-◌, ◌*◌, ◌/◌, ◌%◌, ◌≤◌, ◌<◌, Bool, true, false, cond, ◌||◌, eqb, ltb, List, Result, Ok, Err, length, take, drop, refl, ap, sym, ◌∙◌, arith}
use Rattle.std.proofs.lemmas.Bool.Decides.{nat_tests}
use lib.ListN.{length-drop}
use lib.Seq.{sets-eq}
use borrow.Author.Tests.{lt-ltb, le-ltb, eq-eqb, ne_eqb}
use borrow.Author.Rules.{part_to_end}
use Rattle.theory.proofs.Bools.{or_right}
use Rattle.rules.specs.declared.Entry.{Entry}
use Rattle.rules.specs.declared.Reason.{Reason}
use Rattle.rules.specs.declared.Reason.TheVariants.{NumbersFall, BodiesMisplaced}
use Rattle.rules.specs.Verdict.{SceneAnswer}
use Rattle.rules.specs.Book.{entries, rising, count, cut_short, bodies_at, in_place, fault_of, book_fault, no_scene, look_up, finding_scene}
use Rattle.rules.specs.Book.{book_of, scenes_in, table_entries, table_cut, in_buffer, table_fault, BookOutcome, book_outcome, book_answer, no_book, put_book, writing_book}
use Rattle.theory.proofs.Scenes.{book-length}
use Rattle.rules.specs.Returned.{number_of}
use Rattle.book.specs.Tables.{book_size, with_book, checked}
use Rattle.book.proofs.Writing.{scenes-count, bodies-length}

-- ---- a scene asked for

refused : (rises placed : Bool) {reason : Reason} (x : SceneAnswer) → Err reason ≡ checked rises placed
    → no_scene (number_of reason) ≡ cond (eqb (fault_of false rises placed) 0) x (no_scene (fault_of false rises placed))
refused false placed {reason} x e = let is : reason ≡ NumbersFall = cc in rw is
refused true false {reason} x e = let is : reason ≡ BodiesMisplaced = cc in rw is
refused true true x e = cc

taken : (rises placed : Bool) (x : SceneAnswer) → Ok tt ≡ checked rises placed → x ≡ cond (eqb (fault_of false rises placed) 0) x (no_scene (fault_of false rises placed))
taken false placed x e = cc
taken true false x e = cc
taken true true x e = refl

ltb-suc : (a b : ℕ) → ltb (suc a) (suc b) ≡ ltb a b
ltb-suc a b = grind (arith, nat_tests)

module _ (book : List ℕ) (number : ℕ) where
  pub no-count : length book < 1 → no_scene 22 ≡ finding_scene book number
  unfolding finding_scene book_fault
  no-count h =
      let cut : cut_short book ≡ true = or_right (ltb 256 (count book)) (ltb (length book) (bodies_at (count book))) (lt-ltb (length book) (bodies_at (count book)) (omega arith)) in
      rw cut

  module _ (n : ℕ) (there : 1 ≤ length book) (is : n ≡ count book) where
    abbrev table : List ℕ
    table = take (length book - 1) (drop 1 book)

    cut-is : (ltb 256 n || ltb (length table) (3 * n)) ≡ cut_short book
    cut-is =
        let a : length book ≡ suc (length (drop 1 book)) = omega (arith, length-drop 1 book) in
        let b : bodies_at (count book) ≡ suc (3 * count book) = omega arith in
        rw (part_to_end book 1, is, a, b, ltb-suc (length (drop 1 book)) (3 * count book))

    pub cut-told : (ltb 256 n || ltb (length table) (3 * n)) ≡ true → no_scene 22 ≡ finding_scene book number
    unfolding finding_scene book_fault
    cut-told e = rw (sym cut-is ∙ e)

    module _ (whole : (ltb 256 n || ltb (length table) (3 * n)) ≡ false) {es : List Entry} (es-are : es ≡ entries n table) where
      es_all : es ≡ entries n (drop 1 book)
      es_all = es-are ∙ rw (part_to_end book 1)

      pub fault-told : {reason : Reason} → Err reason ≡ checked (rising es) (in_place (bodies_at n) (length book) es) → no_scene (number_of reason) ≡ finding_scene book number
      unfolding finding_scene book_fault
      fault-told e = rw (sym cut-is ∙ whole, ← is, ← es_all) (refused (rising es) (in_place (bodies_at n) (length book) es) (look_up number es) e)

      pub answer-told : Ok tt ≡ checked (rising es) (in_place (bodies_at n) (length book) es) → look_up number es ≡ finding_scene book number
      unfolding finding_scene book_fault
      answer-told e = rw (sym cut-is ∙ whole, ← is, ← es_all) (taken (rising es) (in_place (bodies_at n) (length book) es) (look_up number es) e)

-- ---- a book made of a table

-- a size that is told, and a fault
pub sized : (inside : Bool) {whole size : ℕ} → ◌≡◌ {A = Result ℕ Reason} (Ok size) (cond inside (Ok whole) (Err BodiesMisplaced)) → (inside ≡ true) × (size ≡ whole)
sized true e = (refl, cc)
sized false e = absurd cc

pub unsized : (inside : Bool) (whole : ℕ) {reason : Reason} → ◌≡◌ {A = Result ℕ Reason} (Err reason) (cond inside (Ok whole) (Err BodiesMisplaced)) → (reason ≡ BodiesMisplaced) × (false ≡ inside)
unsized true whole e = absurd cc
unsized false whole e = (cc, refl)

or_false : (b : Bool) → (b || false) ≡ b
or_false true = refl
or_false false = refl

module _ (table ws buffer : List ℕ) where
  -- by the answers of the three tests
  written : {cut rise place : Bool} → table_cut table ≡ cut → rise ≡ rising (table_entries table) → place ≡ in_buffer (length ws) (table_entries table)
      → cond (eqb (fault_of cut rise place) 0) (put_book (book_of (scenes_in ws (table_entries table))) buffer) (no_book (fault_of cut rise place) buffer) ≡ writing_book table ws buffer
  unfolding writing_book table_fault
  written cut-is rise-is place-is = rw (cut-is, rise-is, place-is)

  pub cut-within : (length table % 3 ≡ 0 → ⊥) → no_book 22 buffer ≡ writing_book table ws buffer
  cut-within h = written {cut = true} (rw (ne_eqb (length table % 3) 0 h)) refl refl

  module _ (whole : length table % 3 ≡ 0) {cut : Bool} (cut-is : (ltb 256 (length table / 3) || ltb (length table) (3 * (length table / 3))) ≡ cut) where
    cut-between : table_cut table ≡ cut
    cut-between =
        rw (eq-eqb (length table % 3) 0 whole, ← cut-is, le-ltb (length table) (3 * (length table / 3)) (omega arith)) (sym (or_false (ltb 256 (length table / 3))))

    pub of-table : {es : List Entry} → es ≡ table_entries table → {rise place : Bool} → rise ≡ rising es → place ≡ in_buffer (length ws) es
        → cond (eqb (fault_of cut rise place) 0) (put_book (book_of (scenes_in ws es)) buffer) (no_book (fault_of cut rise place) buffer) ≡ writing_book table ws buffer
    of-table {es} is {rise} {place} rise-is place-is =
        ap (λ (es : List Entry). cond (eqb (fault_of cut rise place) 0) (put_book (book_of (scenes_in ws es)) buffer) (no_book (fault_of cut rise place) buffer)) is
        ∙ written cut-between (rise-is ∙ ap rising is) (place-is ∙ ap (in_buffer (length ws)) is)

module _ (ws buffer : List ℕ) (es : List Entry) (inside : in_buffer (length ws) es ≡ true) {size : ℕ} (is : size ≡ book_size es) where
  made-length : length (book_of (scenes_in ws es)) ≡ size
  made-length = omega (arith, book-length (scenes_in ws es), scenes-count ws es, bodies-length ws es inside)

  pub too-small : length buffer < size → no_book 11 buffer ≡ put_book (book_of (scenes_in ws es)) buffer
  too-small h = rw (lt-ltb (length buffer) (length (book_of (scenes_in ws es))) (omega (arith, made-length)))

  pub put : size ≤ length buffer → {after : List ℕ} → after ≡ with_book ws es buffer → book_outcome (book_answer 0 size) after ≡ put_book (book_of (scenes_in ws es)) buffer
  put h {after} e =
      let l : 0 + length (book_of (scenes_in ws es)) ≤ length buffer = omega (arith, made-length) in
      let z : 0 + length (book_of (scenes_in ws es)) ≡ length (book_of (scenes_in ws es)) = omega arith in
      ap {B = BookOutcome} (λ k. book_outcome (book_answer 0 k) after) (sym made-length)
      ∙ rw (le-ltb (length buffer) (length (book_of (scenes_in ws es))) (omega (arith, made-length)), e, sets-eq (book_of (scenes_in ws es)) buffer 0 l, z)
