-- The contents of a scene book, and what it says that a book or a table has no fault.
use Prim.Native.Nat.{ℕ, ◌+◌, ◌/◌, ◌%◌, ◌≤◌}
use native.Mathlib.Omega.{arith}
use mathlib.Core.Path.{◌≡◌, refl}
use mathlib.Core.Bool.{Bool, true, false, cond, not, ◌&&◌}
use mathlib.Core.List.{List, [], ◌∷◌}
use lib.Dec.{eqb, leb, ltb}
use lib.ListN.{length, drop, length-drop}
use lib.Seq.{length-take-le}
use borrow.Author.Tests.{eqb-true, leb-true, le-leb, ltb-false}
use Rattle.rules.specs.declared.Entry.{Entry}
use Rattle.rules.specs.Book.{rising, body_in, fault_of, count, contents, bodies_at, cut_short, in_place, book_fault, no_scene, look_up, finding_scene, table_entries, table_cut, in_buffer, table_fault, Holds}
use Rattle.theory.proofs.Bools.{neither}

-- ---- no fault

pub record Faultless (cut rises placed : Bool) : Type 0 where
  pub whole : cut ≡ false
  pub rise : rises ≡ true
  pub place : placed ≡ true

pub faultless : (cut rises placed : Bool) → fault_of cut rises placed ≡ 0 → Faultless cut rises placed
faultless true r p e = absurd (omega arith)
faultless false false p e = absurd (omega arith)
faultless false true false e = absurd (omega arith)
faultless false true true e = record { whole = refl; rise = refl; place = refl }

pub book_faultless : (book : List ℕ) → book_fault book ≡ 0
    → Faultless (cut_short book) (rising (contents book)) (in_place (bodies_at (count book)) (length book) (contents book))
unfolding book_fault
book_faultless book = faultless (cut_short book) (rising (contents book)) (in_place (bodies_at (count book)) (length book) (contents book))

pub table_faultless : (table ws : List ℕ) → table_fault table ws ≡ 0
    → Faultless (table_cut table) (rising (table_entries table)) (in_buffer (length ws) (table_entries table))
unfolding table_fault
table_faultless table ws = faultless (table_cut table) (rising (table_entries table)) (in_buffer (length ws) (table_entries table))

pub book-holds : (book : List ℕ) → cut_short book ≡ false → Holds (count book) (drop 1 book) × (1 ≤ length book)
book-holds book e =
    let t = neither (ltb 256 (count book)) (ltb (length book) (bodies_at (count book))) e in
    let long = ltb-false (length book) (bodies_at (count book)) t.1 in
    (record { few = ltb-false 256 (count book) t.0; long = omega (arith, length-drop 1 book) }, omega arith)

pub table-holds : (table : List ℕ) → table_cut table ≡ false → Holds (length table / 3) table
table-holds table e =
    let t = neither (not (eqb (length table % 3) 0)) (ltb 256 (length table / 3)) e in
    record { few = ltb-false 256 (length table / 3) t.1; long = omega arith }

-- ---- bodies

-- the two tests of an entry, and those of the entries behind it
all_three : (a b c : Bool) → ((a && b) && c) ≡ true → (a ≡ true) × (b ≡ true) × (c ≡ true)
all_three true true c h = (refl, refl, h)
all_three true false c h = (cc, cc, cc)
all_three false b c h = (cc, cc, cc)

-- a body inside some words has as many as its entry says
pub body-length : (ws : List ℕ) (e : Entry) → e.start + e.length ≤ length ws → length (body_in ws e) ≡ e.length
body-length ws e h = length-take-le e.length (drop e.start ws) (omega (arith, length-drop e.start ws))

pub record Placed (at end : ℕ) (e : Entry) (es : List Entry) : Type 0 where
  pub short : e.length ≤ 4096
  pub starts : e.start ≡ at
  pub rest : in_place (at + e.length) end es ≡ true

pub placed : (at end : ℕ) (e : Entry) (es : List Entry) → in_place at end (e ∷ es) ≡ true → Placed at end e es
placed at end e es h =
    let t = all_three (leb e.length 4096) (eqb e.start at) (in_place (at + e.length) end es) h in
    record { short = leb-true e.length 4096 t.0; starts = eqb-true e.start at t.1; rest = t.2 }

pub placed-le : (at end : ℕ) (es : List Entry) → in_place at end es ≡ true → at ≤ end
placed-le at end [] h = let e = eqb-true at end h in omega arith
placed-le at end (e ∷ es) h = omega (arith, placed-le (at + e.length) end es (placed at end e es h).rest)

-- bodies in place are inside the book, and so a table of them is one over the book
pub placed-inside : (at end : ℕ) (es : List Entry) → in_place at end es ≡ true → in_buffer end es ≡ true
placed-inside at end [] h = refl
placed-inside at end (e ∷ es) h =
    let p = placed at end e es h in
    rw (le-leb e.length 4096 p.short, le-leb (e.start + e.length) end (omega (arith, placed-le (at + e.length) end es p.rest)))
    (placed-inside (at + e.length) end es p.rest)

pub record Inside (words : ℕ) (e : Entry) (es : List Entry) : Type 0 where
  pub short : e.length ≤ 4096
  pub inside : e.start + e.length ≤ words
  pub rest : in_buffer words es ≡ true

pub inside : (words : ℕ) (e : Entry) (es : List Entry) → in_buffer words (e ∷ es) ≡ true → Inside words e es
inside words e es h =
    let t = all_three (leb e.length 4096) (leb (e.start + e.length) words) (in_buffer words es) h in
    record { short = leb-true e.length 4096 t.0; inside = leb-true (e.start + e.length) words t.1; rest = t.2 }

-- ---- a scene that is found is inside the book

found_inside : (number words : ℕ) (es : List Entry) → in_buffer words es ≡ true → (look_up number es).start + (look_up number es).length ≤ words
found_inside number words [] h = omega arith
found_inside number words (e ∷ es) h =
    let p = inside words e es h in
    elim (eqb e.number number) as (λ t. let a = cond t (record { verdict = 0; start = e.start; length = e.length }) (look_up number es) in a.start + a.length ≤ words) [
      | true ↦ p.inside
      | false ↦ found_inside number words es p.rest
    ]

pub finding_inside : (book : List ℕ) (number : ℕ) → (finding_scene book number).start + (finding_scene book number).length ≤ length book
unfolding finding_scene
finding_inside book number =
    (elim (eqb (book_fault book) 0) as (λ t. eqb (book_fault book) 0 ≡ t → let a = cond t (look_up number (contents book)) (no_scene (book_fault book)) in a.start + a.length ≤ length book) [
      | true ↦ λ e. found_inside number (length book) (contents book)
          (placed-inside (bodies_at (count book)) (length book) (contents book) (book_faultless book (eqb-true (book_fault book) 0 e)).place)
      | false ↦ λ e. omega arith
    ]) refl
