-- What holds of scene books (document 02, Ticket 8), about the definitions that the contracts of `book::find`, `book::scene` and
-- `book::write_book` cite. Books, tables and buffers are any words.
use Prim.Native.Nat.{ℕ, zero, suc, ◌+◌, ◌*◌, ◌/◌, ◌^◌, ◌≤◌, ◌<◌}
use native.Mathlib.Omega.{arith}
use mathlib.Core.Path.{◌≡◌, refl, ap, sym, ◌∙◌, subst}
use mathlib.Core.Bool.{true, false, cond}
use mathlib.Core.Logic.{◌↔◌}
use mathlib.Core.List.{List, [], ◌∷◌, ◌++◌}
use lib.Dec.{eqb, ltb}
use lib.ListN.{length, get_or, drop, length-append}
use lib.Seq.{get_or-drop, take-append_seam, drop-append_seam}
use borrow.Author.Tests.{eqb-true, eqb-false, ltb-true, ltb-false, ne_eqb}
use Rattle.rules.specs.declared.Entry.{Entry}
use Rattle.rules.specs.Book.{body_in, count, contents, book_fault, no_scene, look_up, finding_scene, Scene, bodies, book_of, table_scenes, table_fault, BookOutcome, no_book, put_book, writing_book, book_written, entry_at, scenes_of, asked, found, not_found, scene_of, FitsBook, Short}
use Rattle.theory.proofs.Bytes.{Words}
use Rattle.theory.proofs.Contents as laws
use Rattle.theory.proofs.Scenes.{scenes_fit, entry_found, none_found, same-scenes, book-length, book-accepted, book_tells, book_scenes_fit, book_again, scenes-told}

-- ---- the reader

nothing-found : (number : ℕ) (es : List Entry) → ((look_up number es).verdict ≡ 0 → ⊥) → look_up number es ≡ no_scene (look_up number es).verdict
nothing-found number [] = λ n. refl
nothing-found number (e ∷ es) =
    elim (eqb e.number number) as (λ t. let a = cond t (record { verdict = 0; start = e.start; length = e.length }) (look_up number es) in (a.verdict ≡ 0 → ⊥) → a ≡ no_scene a.verdict) [
      | true ↦ λ n. absurd (n refl)
      | false ↦ nothing-found number es
    ]

-- "an empty one on refusal"
pub empty_on_refusal : (book : List ℕ) (number : ℕ) → ((finding_scene book number).verdict ≡ 0 → ⊥) → finding_scene book number ≡ no_scene (finding_scene book number).verdict
unfolding finding_scene
empty_on_refusal book number =
    elim (eqb (book_fault book) 0) as (λ t. let a = cond t (look_up number (contents book)) (no_scene (book_fault book)) in (a.verdict ≡ 0 → ⊥) → a ≡ no_scene a.verdict) [
      | true ↦ nothing-found number (contents book)
      | false ↦ λ n. refl
    ]

-- "that very stretch of the caller's buffer": it is inside the book
pub stretch-inside : (book : List ℕ) (number : ℕ) → (finding_scene book number).start + (finding_scene book number).length ≤ length book
stretch-inside = laws.finding_inside

-- the faults are told "whatever scene is asked for, before 25"
pub fault-told : (book : List ℕ) (number : ℕ) → (book_fault book ≡ 0 → ⊥) → finding_scene book number ≡ no_scene (book_fault book)
unfolding finding_scene
fault-told book number n = rw (ne_eqb (book_fault book) 0 n)

-- a book without a fault is the book of its scenes, and these are such that a book can hold; of such scenes the book has no fault
pub record BookOfScenes (book : List ℕ) : Type 0 where
  pub scenes : List Scene
  pub fit : FitsBook scenes
  pub is : book_of scenes ≡ book

pub no_fault_exactly : (book : List ℕ) → (book_fault book ≡ 0) ↔ BookOfScenes book
no_fault_exactly book = (
  λ z. record { scenes = scenes_of book; fit = book_scenes_fit book z; is = book_again book z },
  λ s. subst (λ (b : List ℕ). book_fault b ≡ 0) s.is (book-accepted s.scenes s.fit),
)

-- ---- one set of scenes has one book

below : (ws : List ℕ) (i : ℕ) → Words ws → get_or ws i 0 < 2 ^ 32
below [] i h = omega arith
below (w ∷ ws) zero h = h.0
below (w ∷ ws) (suc i) h = below ws i h.1

-- no entry has a number that is no word
beyond : (b : List ℕ) (n : ℕ) → Words b → 2 ^ 32 ≤ n → scene_of n (scenes_of b) ≡ not_found
beyond b n h l = none_found b n (count b) (drop 1 b) (λ k m e. omega (arith, get_or-drop 1 b (3 * k) 0, below b (1 + 3 * k) h))

-- books that tell the same verdict and the same stretch for every number are the same, word for word
pub one-book : (b c : List ℕ) → book_fault b ≡ 0 → book_fault c ≡ 0 → Words b → Words c → ((n : ℕ) → n < 2 ^ 32 → asked b n ≡ asked c n) → b ≡ c
one-book b c y z wb wc a =
    sym (book_again b y)
    ∙ ap book_of (same-scenes 0 (scenes_of b) (scenes_of c) (book_scenes_fit b y).rise (book_scenes_fit c z).rise (λ n.
    (elim (ltb n (2 ^ 32)) as (λ t. ltb n (2 ^ 32) ≡ t → scene_of n (scenes_of b) ≡ scene_of n (scenes_of c)) [
      | true ↦ λ t. sym (scenes-told b y n) ∙ a n (ltb-true n (2 ^ 32) t) ∙ scenes-told c z n
      | false ↦ λ t. beyond b n wb (ltb-false n (2 ^ 32) t) ∙ sym (beyond c n wc (ltb-false n (2 ^ 32) t))
    ]) refl))
    ∙ book_again c z

-- ---- the writer

bodies-few : (ss : List Scene) → Short ss → length (bodies ss) ≤ 4096 * length ss
bodies-few [] h = omega arith
bodies-few (s ∷ ss) h = omega (arith, length-append s.body (bodies ss), h.0, bodies-few ss h.1)

module _ (table ws buffer : List ℕ) where
  abbrev made : List ℕ
  made = book_of (table_scenes table ws)

  abbrev put : BookOutcome
  put = record { answer = record { verdict = 0; words = length made }; buffer = made ++ drop (length made) buffer }

  -- the three ways that a call can go
  pub by_writing : (P : BookOutcome → Type 0) → ((table_fault table ws ≡ 0 → ⊥) → P (no_book (table_fault table ws) buffer))
      → (table_fault table ws ≡ 0 → length buffer < length made → P (no_book 11 buffer))
      → (table_fault table ws ≡ 0 → length made ≤ length buffer → P put) → P (writing_book table ws buffer)
  unfolding writing_book
  by_writing P faulty full fits =
      (elim (eqb (table_fault table ws) 0) as (λ t. eqb (table_fault table ws) 0 ≡ t → P (cond t (put_book made buffer) (no_book (table_fault table ws) buffer))) [
        | true ↦ λ e.
            let z = eqb-true (table_fault table ws) 0 e in
            (elim (ltb (length buffer) (length made)) as (λ t. ltb (length buffer) (length made) ≡ t → P (cond t (no_book 11 buffer) put)) [
              | true ↦ λ s. full z (ltb-true (length buffer) (length made) s)
              | false ↦ λ s. fits z (ltb-false (length buffer) (length made) s)
            ]) refl
        | false ↦ λ e. faulty (eqb-false (table_fault table ws) 0 e)
      ]) refl

  -- "a refusal changes neither the image nor any buffer"
  pub refusal-writes-nothing : ((writing_book table ws buffer).answer.verdict ≡ 0 → ⊥) → writing_book table ws buffer ≡ no_book (writing_book table ws buffer).answer.verdict buffer
  refusal-writes-nothing =
      by_writing (λ o. (o.answer.verdict ≡ 0 → ⊥) → o ≡ no_book o.answer.verdict buffer) (λ f n. refl) (λ z l n. refl) (λ z l n. absurd (n refl))

  -- accepted exactly where the table has no fault and the book fits; it is then what is written
  pub accepted-exactly : ((writing_book table ws buffer).answer.verdict ≡ 0) ↔ ((table_fault table ws ≡ 0) × (length made ≤ length buffer))
  accepted-exactly = (
    by_writing (λ o. o.answer.verdict ≡ 0 → (table_fault table ws ≡ 0) × (length made ≤ length buffer)) (λ f z. absurd (f z)) (λ z l e. absurd (omega arith)) (λ z l e. (z, l)),
    λ a. by_writing (λ o. o.answer.verdict ≡ 0) (λ f. absurd (f a.0)) (λ z l. absurd (omega (arith, a.1))) (λ z l. refl),
  )

  scenes_fit_book : table_fault table ws ≡ 0 → FitsBook (table_scenes table ws)
  scenes_fit_book z =
      let f = laws.table_faultless table ws z in
      scenes_fit ws (length table / 3) table (laws.table-holds table f.whole) f.rise f.place

  -- 256 bodies of 4,096 words, and the contents
  pub words-few : (writing_book table ws buffer).answer.words ≤ 1049345
  words-few = by_writing (λ o. o.answer.words ≤ 1049345) (λ f. omega arith) (λ z l. omega arith)
      (λ z l.
      let h = scenes_fit_book z in
      omega (arith, book-length (table_scenes table ws), bodies-few (table_scenes table ws) h.short, h.few))

  module _ (z : (writing_book table ws buffer).answer.verdict ≡ 0) where
    pub written_is : book_written (writing_book table ws buffer) ≡ made
    written_is = by_writing (λ o. o.answer.verdict ≡ 0 → book_written o ≡ made) (λ f e. absurd (f e)) (λ t l e. absurd (omega arith))
        (λ t l e. take-append_seam made (drop (length made) buffer)) z

    -- "the words after those written are as before"
    pub behind-written : drop (writing_book table ws buffer).answer.words (writing_book table ws buffer).buffer ≡ drop (writing_book table ws buffer).answer.words buffer
    behind-written = by_writing (λ o. o.answer.verdict ≡ 0 → drop o.answer.words o.buffer ≡ drop o.answer.words buffer) (λ f e. absurd (f e)) (λ t l e. refl)
        (λ t l e. drop-append_seam made (drop (length made) buffer)) z

    fit : FitsBook (table_scenes table ws)
    fit = scenes_fit_book (accepted-exactly.0 z).0

    -- the book written has no fault
    pub written-accepted : book_fault (book_written (writing_book table ws buffer)) ≡ 0
    written-accepted = rw written_is (book-accepted (table_scenes table ws) fit)

    tells : (n : ℕ) → asked (book_written (writing_book table ws buffer)) n ≡ scene_of n (table_scenes table ws)
    tells n = rw written_is (book_tells (table_scenes table ws) fit n)

    -- "each scene reads back word for word"
    pub scene_reads_back : (k : ℕ) → k < length table / 3 → asked (book_written (writing_book table ws buffer)) (entry_at table k).number ≡ found (body_in ws (entry_at table k))
    scene_reads_back k h = tells (entry_at table k).number ∙ (entry_found ws 0 (length table / 3) k table h fit.rise).1

    -- and no other is found
    pub no_other_found : (n : ℕ) → ((k : ℕ) → k < length table / 3 → (entry_at table k).number ≡ n → ⊥) → asked (book_written (writing_book table ws buffer)) n ≡ not_found
    no_other_found n h = tells n ∙ none_found ws n (length table / 3) table h

-- "one set of scenes has one book", wherever the bodies lie in the writer's buffer
pub same-scenes-same-book : (table ws buffer table' ws' buffer' : List ℕ) → (writing_book table ws buffer).answer.verdict ≡ 0 → (writing_book table' ws' buffer').answer.verdict ≡ 0
    → table_scenes table ws ≡ table_scenes table' ws' → book_written (writing_book table ws buffer) ≡ book_written (writing_book table' ws' buffer')
same-scenes-same-book table ws buffer table' ws' buffer' z z' e = written_is table ws buffer z ∙ ap book_of e ∙ sym (written_is table' ws' buffer' z')
