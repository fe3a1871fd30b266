-- Scenes and their book: each fixes the other, and each scene reads back word for word.
use Prim.Native.Nat.{ℕ, zero, suc, ◌+◌, ◌*◌, ◌≤◌, ◌<◌}
use native.Mathlib.Omega.{arith}
use native.Mathlib.Nat.{le_refl}
use mathlib.Core.Path.{◌≡◌, refl, ap, ap₂, sym, ◌∙◌, subst}
use mathlib.Core.Bool.{true, false, cond}
use mathlib.Core.List.{List, [], ◌∷◌, ◌++◌, append_assoc}
use lib.Dec.{eqb, ltb}
use lib.ListN.{length, get_or, take, drop, length-append, length-drop, take-append-drop}
use lib.Seq.{get_or-drop, drop_at, drop-cons, drop-drop, take-append_seam, drop-length}
use borrow.Author.Tests.{eqb-true, ltb-true, eq-eqb, ne_eqb, le-leb, lt-ltb, le-ltb}
use Rattle.rules.specs.declared.Entry.{Entry}
use Rattle.rules.specs.Book.{entries, rising, body_in, count, contents, bodies_at, in_place, book_fault, look_up, finding_scene, Scene, scenes_in, contents_of, bodies, book_of, in_buffer, entry_at, scenes_of, Told, told, asked, found, not_found, scene_of, Rise, Short, FitsBook, Holds}
use Rattle.theory.proofs.Bools.{and_left, and_right}
use Rattle.theory.proofs.Contents.{book_faultless, book-holds, body-length, placed, placed-inside, inside}

-- ---- the scenes of entries

pub scenes-length : (ws : List ℕ) (n : ℕ) (table : List ℕ) → length (scenes_in ws (entries n table)) ≡ n
scenes-length ws zero table = refl
scenes-length ws (suc n) table = omega (arith, scenes-length ws n (drop 3 table))

scenes-short : (ws : List ℕ) (es : List Entry) → in_buffer (length ws) es ≡ true → Short (scenes_in ws es)
scenes-short ws [] h = tt
scenes-short ws (e ∷ es) h =
    let p = inside (length ws) e es h in
    (omega (arith, body-length ws e p.inside, p.short), scenes-short ws es p.rest)

rise-on : (ws : List ℕ) (n : ℕ) (e : Entry) (es : List Entry) → n ≤ e.number → rising (e ∷ es) ≡ true → Rise n (scenes_in ws (e ∷ es))
rise-on ws n e [] l h = (l, tt)
rise-on ws n e (f ∷ es) l h =
    let up = ltb-true e.number f.number (and_left (ltb e.number f.number) (rising (f ∷ es)) h) in
    (l, rise-on ws (suc e.number) f es up (and_right (ltb e.number f.number) (rising (f ∷ es)) h))

scenes-rise : (ws : List ℕ) (es : List Entry) → rising es ≡ true → Rise 0 (scenes_in ws es)
scenes-rise ws [] h = tt
scenes-rise ws (e ∷ es) h = rise-on ws 0 e es (omega arith) h

-- of a table without a fault they are such that a book can hold
pub scenes_fit : (ws : List ℕ) (n : ℕ) (table : List ℕ) → Holds n table → rising (entries n table) ≡ true → in_buffer (length ws) (entries n table) ≡ true
    → FitsBook (scenes_in ws (entries n table))
scenes_fit ws n table h r b = record {
  few = omega (arith, scenes-length ws n table, h.few);
  rise = scenes-rise ws (entries n table) r;
  short = scenes-short ws (entries n table) b;
}

-- ---- what scenes have under a number

-- a number below all is not there
absent : (m n : ℕ) (ss : List Scene) → m < n → Rise n ss → scene_of m ss ≡ not_found
absent m n [] l h = refl
absent m n (s ∷ ss) l h = rw (ne_eqb s.number m (λ e. omega arith)) (absent m (suc s.number) ss (omega arith) h.1)

first_found : (s : Scene) (ss : List Scene) → scene_of s.number (s ∷ ss) ≡ found s.body
first_found s ss = rw (eq-eqb s.number s.number refl)

entry-behind : (table : List ℕ) (k : ℕ) → entry_at (drop 3 table) k ≡ entry_at table (suc k)
entry-behind table k =
    let a : 3 + 3 * k ≡ 3 * suc k = omega arith in
    let b : 3 + (3 * k + 1) ≡ 3 * suc k + 1 = omega arith in
    let c : 3 + (3 * k + 2) ≡ 3 * suc k + 2 = omega arith in
    rw (get_or-drop 3 table (3 * k) 0, get_or-drop 3 table (3 * k + 1) 0, get_or-drop 3 table (3 * k + 2) 0, a, b, c)

-- the scene of entry k under its number: all before have lower ones
pub entry_found : (ws : List ℕ) (m n k : ℕ) (table : List ℕ) → k < n → Rise m (scenes_in ws (entries n table))
    → (m ≤ (entry_at table k).number) × (scene_of (entry_at table k).number (scenes_in ws (entries n table)) ≡ found (body_in ws (entry_at table k)))
entry_found ws m zero k table l h = absurd (omega arith)
entry_found ws m (suc n) zero table l h = (h.0, first_found (record { number = get_or table 0 0; body = body_in ws (entry_at table 0) }) (scenes_in ws (entries n (drop 3 table))))
entry_found ws m (suc n) (suc k) table l h =
    let ih = entry_found ws (suc (get_or table 0 0)) n k (drop 3 table) (omega arith) h.1 in
    subst (λ (e : Entry). (m ≤ e.number) × (scene_of e.number (scenes_in ws (entries (suc n) table)) ≡ found (body_in ws e))) (entry-behind table k)
    (omega (arith, h.0, ih.0), rw (ne_eqb (get_or table 0 0) (entry_at (drop 3 table) k).number (λ e. omega (arith, ih.0))) ih.1)

pub none_found : (ws : List ℕ) (number n : ℕ) (table : List ℕ) → ((k : ℕ) → k < n → (entry_at table k).number ≡ number → ⊥)
    → scene_of number (scenes_in ws (entries n table)) ≡ not_found
none_found ws number zero table h = refl
none_found ws number (suc n) table h =
    rw (ne_eqb (get_or table 0 0) number (h 0 (omega arith)))
    (none_found ws number n (drop 3 table) (λ k l e. h (suc k) (omega arith) (ap (λ (x : Entry). x.number) (sym (entry-behind table k)) ∙ e)))

-- scenes that have the same under every number are the same
below : (n : ℕ) (s t : Scene) (ss ts : List Scene) → Rise n (t ∷ ts) → scene_of s.number (s ∷ ss) ≡ scene_of s.number (t ∷ ts) → s.number < t.number → ⊥
below n s t ss ts h e l =
    let z = ap (λ (w : Told). w.verdict) (sym (first_found s ss) ∙ e ∙ absent s.number t.number (t ∷ ts) l (le_refl t.number, h.1)) in
    omega arith

pub same-scenes : (n : ℕ) (ss ts : List Scene) → Rise n ss → Rise n ts → ((m : ℕ) → scene_of m ss ≡ scene_of m ts) → ss ≡ ts
same-scenes n [] [] h k a = refl
same-scenes n [] (t ∷ ts) h k a = let z = ap (λ (w : Told). w.verdict) (a t.number ∙ first_found t ts) in absurd (omega arith)
same-scenes n (s ∷ ss) [] h k a = let z = ap (λ (w : Told). w.verdict) (sym (a s.number) ∙ first_found s ss) in absurd (omega arith)
same-scenes n (s ∷ ss) (t ∷ ts) h k a =
    let e : s.number ≡ t.number = omega (arith, below n s t ss ts k (a s.number), below n t s ts ss h (sym (a t.number))) in
    let body : s.body ≡ t.body = ap (λ (w : Told). w.words) (sym (first_found s ss) ∙ a s.number ∙ ap (λ (m : ℕ). scene_of m (t ∷ ts)) e ∙ first_found t ts) in
    ap₂ {C = List Scene} (λ x xs. x ∷ xs) (ap₂ {C = Scene} (λ i b. record { number = i; body = b }) e body)
    (same-scenes (suc s.number) ss ts h.1 (rw e k.1)
    (λ m. (elim (eqb s.number m) as (λ b. eqb s.number m ≡ b → scene_of m ss ≡ scene_of m ts) [
      | true ↦ λ q.
          let i = eqb-true s.number m q in
          absent m (suc s.number) ss (omega arith) h.1 ∙ sym (absent m (suc t.number) ts (omega arith) k.1)
      | false ↦ λ q.
          let r : eqb t.number m ≡ false = rw (← e) q in
          rw (q, r) at (a m)
    ]) refl))

-- ---- from scenes to their book

-- the entries of scenes whose bodies begin at a word
abbrev entries_at : ℕ → List Scene → List Entry
entries_at at [] = []
entries_at at (s ∷ ss) = record { number = s.number; start = at; length = length s.body } ∷ entries_at (at + length s.body) ss

entries-contents : (at : ℕ) (ss : List Scene) (more : List ℕ) → entries (length ss) (contents_of at ss ++ more) ≡ entries_at at ss
entries-contents at [] more = refl
entries-contents at (s ∷ ss) more =
    ap (λ (l : List Entry). record { number = s.number; start = at; length = length s.body } ∷ l) (entries-contents (at + length s.body) ss more)

pub contents-length : (at : ℕ) (ss : List Scene) → length (contents_of at ss) ≡ 3 * length ss
contents-length at [] = refl
contents-length at (s ∷ ss) = omega (arith, contents-length (at + length s.body) ss)

pub book-length : (ss : List Scene) → length (book_of ss) ≡ bodies_at (length ss) + length (bodies ss)
book-length ss =
    let at = bodies_at (length ss) in
    omega (arith, length-append (contents_of at ss) (bodies ss), contents-length at ss)

rise-entries : (n at : ℕ) (ss : List Scene) → Rise n ss → rising (entries_at at ss) ≡ true
rise-entries n at [] h = refl
rise-entries n at (s ∷ []) h = refl
rise-entries n at (s ∷ t ∷ ss) h =
    rw (lt-ltb s.number t.number h.1.0) (rise-entries (suc s.number) (at + length s.body) (t ∷ ss) h.1)

in_place_lem : (at : ℕ) (ss : List Scene) → Short ss → in_place at (at + length (bodies ss)) (entries_at at ss) ≡ true
in_place_lem at [] h = eq-eqb at (at + 0) (omega arith)
in_place_lem at (s ∷ ss) h =
    let e : at + length (s.body ++ bodies ss) ≡ (at + length s.body) + length (bodies ss) = omega (arith, length-append s.body (bodies ss)) in
    rw (e, le-leb (length s.body) 4096 h.0, eq-eqb at at refl) (in_place_lem (at + length s.body) ss h.1)

-- what is found of the contents is the scene's own words
reads_back : (n at : ℕ) (front : List ℕ) (ss : List Scene) → length front ≡ at → told (front ++ bodies ss) (look_up n (entries_at at ss)) ≡ scene_of n ss
reads_back n at front [] e = refl
reads_back n at front (s ∷ ss) e =
    let join : front ++ (s.body ++ bodies ss) ≡ (front ++ s.body) ++ bodies ss = sym (append_assoc front s.body (bodies ss)) in
    let next : List Entry = entries_at (at + length s.body) ss in
    let ih : told (front ++ (s.body ++ bodies ss)) (look_up n next) ≡ scene_of n ss =
    ap (λ (b : List ℕ). told b (look_up n next)) join
    ∙ reads_back n (at + length s.body) (front ++ s.body) ss (length-append front s.body ∙ ap (λ (k : ℕ). k + length s.body) e) in
    let here : take (length s.body) (drop at (front ++ (s.body ++ bodies ss))) ≡ s.body =
    ap (take (length s.body)) (drop_at front (s.body ++ bodies ss) at e) ∙ take-append_seam s.body (bodies ss) in
    elim (eqb s.number n) as (λ t. told (front ++ (s.body ++ bodies ss)) (cond t (record { verdict = 0; start = at; length = length s.body }) (look_up n next))
    ≡ cond t (found s.body) (scene_of n ss)) [
      | true ↦ ap {B = Told} (λ w. found w) here
      | false ↦ ih
    ]

module _ (ss : List Scene) (h : FitsBook ss) where
  contents_are : contents (book_of ss) ≡ entries_at (bodies_at (length ss)) ss
  contents_are = entries-contents (bodies_at (length ss)) ss (bodies ss)

  -- their book has no fault
  pub book-accepted : book_fault (book_of ss) ≡ 0
  unfolding book_fault
  book-accepted =
      rw (
        contents_are,
        book-length ss,
        le-ltb 256 (length ss) h.few,
        le-ltb (bodies_at (length ss) + length (bodies ss)) (bodies_at (length ss)) (omega arith),
        rise-entries 0 (bodies_at (length ss)) ss h.rise,
        in_place_lem (bodies_at (length ss)) ss h.short,
      )

  -- asked for a number, it tells what they have under it
  pub book_tells : (n : ℕ) → asked (book_of ss) n ≡ scene_of n ss
  unfolding finding_scene
  book_tells n =
      rw (book-accepted, contents_are)
      (reads_back n (bodies_at (length ss)) (length ss ∷ contents_of (bodies_at (length ss)) ss) ss (omega (arith, contents-length (bodies_at (length ss)) ss)))

-- ---- from a book to its scenes

bodies_again : (b : List ℕ) (at : ℕ) (es : List Entry) → in_place at (length b) es ≡ true → bodies (scenes_in b es) ≡ drop at b
bodies_again b at [] h = sym (ap (λ (k : ℕ). drop k b) (eqb-true at (length b) h) ∙ drop-length b)
bodies_again b at (e ∷ es) h =
    let p = placed at (length b) e es h in
    ap₂ {C = List ℕ} (λ x y. x ++ y) (ap (λ (k : ℕ). take e.length (drop k b)) p.starts) (bodies_again b (at + e.length) es p.rest ∙ sym (drop-drop e.length at b))
    ∙ take-append-drop e.length (drop at b)

three : (ws : List ℕ) → 3 ≤ length ws → ws ≡ get_or ws 0 0 ∷ get_or ws 1 0 ∷ get_or ws 2 0 ∷ drop 3 ws
three [] h = absurd (omega arith)
three (a ∷ []) h = absurd (omega arith)
three (a ∷ b ∷ []) h = absurd (omega arith)
three (a ∷ b ∷ c ∷ ws) h = refl

contents_again : (b : List ℕ) (n at : ℕ) (ws : List ℕ) → 3 * n ≤ length ws → in_place at (length b) (entries n ws) ≡ true
    → contents_of at (scenes_in b (entries n ws)) ++ drop (3 * n) ws ≡ ws
contents_again b zero at ws h p = refl
contents_again b (suc n) at ws h p =
    let e : Entry = record { number = get_or ws 0 0; start = get_or ws 1 0; length = get_or ws 2 0 } in
    let q = placed at (length b) e (entries n (drop 3 ws)) p in
    let long = body-length b e (inside (length b) e (entries n (drop 3 ws)) (placed-inside at (length b) (e ∷ entries n (drop 3 ws)) p)).inside in
    let k : 3 * suc n ≡ 3 + 3 * n = omega arith in
    let ih = contents_again b n (at + get_or ws 2 0) (drop 3 ws) (omega (arith, length-drop 3 ws)) q.rest in
    rw (long, k, ← drop-drop (3 * n) 3 ws)
    (ap {B = List ℕ} (λ l. get_or ws 0 0 ∷ at ∷ get_or ws 2 0 ∷ l) ih ∙ ap {B = List ℕ} (λ a. get_or ws 0 0 ∷ a ∷ get_or ws 2 0 ∷ drop 3 ws) (sym q.starts) ∙ sym (three ws (omega arith)))

module _ (b : List ℕ) (z : book_fault b ≡ 0) where
  -- its scenes are such that a book can hold
  pub book_scenes_fit : FitsBook (scenes_of b)
  book_scenes_fit =
      let f = book_faultless b z in
      scenes_fit b (count b) (drop 1 b) (book-holds b f.whole).0 f.rise (placed-inside (bodies_at (count b)) (length b) (contents b) f.place)

  -- and it is their book
  pub book_again : book_of (scenes_of b) ≡ b
  book_again =
      let f = book_faultless b z in
      let w = book-holds b f.whole in
      rw (
        scenes-length b (count b) (drop 1 b),
        bodies_again b (bodies_at (count b)) (contents b) f.place,
        ← drop-drop (3 * count b) 1 b,
        contents_again b (count b) (bodies_at (count b)) (drop 1 b) w.0.long f.place,
      )
      (sym (drop-cons b 0 0 w.1))

  pub scenes-told : (n : ℕ) → asked b n ≡ scene_of n (scenes_of b)
  scenes-told n = ap (λ (c : List ℕ). asked c n) (sym book_again) ∙ book_tells (scenes_of b) book_scenes_fit n
