-- The entries of a table, by its chunks of three words.
use Rattle.std.proofs.Common.{◌≡◌, ℕ, zero, suc, ◌+◌, ◌*◌, ◌≤◌, ◌<◌, Bool, true, false, cond, ◌&&◌, ◌||◌, ◌/◌, eqb, leb, ltb, List, [], ◌∷◌, Result, Err, length, get_or, take, drop, refl, ap, sym, ◌∙◌, arith, drop_of_length-le}
use lib.Seq.{drop-cons, length-take-le, drop-nil}
use borrow.Author.Tests.{ltb-true, leb-true, le-leb, le-ltb, ltb-false, eq-eqb, ne_eqb}
use Rattle.std.specs.List.{AllAdjacentBelow, IsAllAdjacentAnswer}
use denote.Param.Members.{Mut}
use denote.Ref.{Bor}
use Rattle.std.specs.Fn.{Called, ComputesKey}
use Rattle.std.specs.List.Sorted.{IsPartitionedBy, IsPartitionPoint}
use Rattle.std.proofs.lemmas.List.Sorted.{IsPartitionPoint-from_clause, IsPartitionedBy-ltb, IsNonDecreasingBy-from_all_adjacent}
use Rattle.std.specs.Simd.{first_chunks}
use Rattle.theory.proofs.Bools.{and_left, and_right}
use Rattle.rules.specs.declared.Entry.{Entry}
use Rattle.rules.specs.declared.Reason.{Reason}
use Rattle.rules.specs.declared.Reason.TheVariants.{NumbersFall, BodiesMisplaced}
use Rattle.rules.specs.Verdict.{SceneAnswer}
use Rattle.rules.specs.Book.{entries, rising, in_place, no_scene, look_up}
use Rattle.book.specs.Tables.{entry_of, entries_of, checked}

front-entry : (t : List ℕ) → entry_of (take 3 t) ≡ entry_of t
front-entry [] = refl
front-entry (a ∷ []) = refl
front-entry (a ∷ b ∷ []) = refl
front-entry (a ∷ b ∷ c ∷ t) = refl

-- the first n of m chunks
pub first-entries : (n m : ℕ) (t : List ℕ) → n ≤ m → entries_of (take n (first_chunks 3 m t)) ≡ entries n t
first-entries zero m t h = refl
first-entries (suc n) zero t h = absurd (omega arith)
first-entries (suc n) (suc m) t h = rw front-entry (ap (λ (es : List Entry). entry_of t ∷ es) (first-entries n m (drop 3 t) (omega arith)))

pub entries_length : (wss : List (List ℕ)) → length (entries_of wss) ≡ length wss
entries_length [] = refl
entries_length (ws ∷ wss) = ap suc (entries_length wss)

pub entries-on : (wss : List (List ℕ)) (k : ℕ) → k < length wss → entries_of (drop k wss) ≡ entry_of (get_or wss k []) ∷ entries_of (drop (k + 1) wss)
entries-on wss k h =
    let n : k + 1 ≡ suc k = omega arith in
    rw (drop-cons wss k [] h, n)

-- ---- rising numbers

and_false : (b : Bool) → (b && false) ≡ false
and_false true = refl
and_false false = refl

more : (k : ℕ) → suc k + 1 ≡ suc (k + 1)
more k = omega arith

rises-all : (wss : List (List ℕ)) → AllAdjacentBelow (λ x y. true ≡ ltb (get_or x 0 0) (get_or y 0 0)) wss (length wss) → true ≡ rising (entries_of wss)
rises-all [] h = refl
rises-all (a ∷ []) h = refl
rises-all (a ∷ b ∷ wss) h =
    rw (← h 0 [] (omega arith)) (rises-all (b ∷ wss) (λ k d l. rw (more k) at (h (suc k) d (omega arith))))

falls-at : (wss : List (List ℕ)) (k : ℕ) → k + 1 < length wss → false ≡ ltb (get_or (get_or wss k []) 0 0) (get_or (get_or wss (k + 1) []) 0 0) → false ≡ rising (entries_of wss)
falls-at [] k h e = absurd (omega arith)
falls-at (a ∷ []) k h e = absurd (omega arith)
falls-at (a ∷ b ∷ wss) zero h e = rw (← e)
falls-at (a ∷ b ∷ wss) (suc k) h e = rw (← falls-at (b ∷ wss) k (omega arith) (rw (more k) at e)) (sym (and_false (ltb (get_or a 0 0) (get_or b 0 0))))

pub rises-is : (wss : List (List ℕ)) (r : Bool) → IsAllAdjacentAnswer (λ x y b. b ≡ ltb (get_or x 0 0) (get_or y 0 0)) wss r → r ≡ rising (entries_of wss)
rises-is wss true h = rises-all wss h
rises-is wss false h = falls-at wss h.0 h.1 (h.2 [])

next-higher : (wss : List (List ℕ)) → rising (entries_of wss) ≡ true → (k : ℕ) (d : List ℕ) → k + 1 < length wss → get_or (get_or wss k d) 0 0 < get_or (get_or wss (k + 1) d) 0 0
next-higher [] up k d h = absurd (omega arith)
next-higher (a ∷ []) up k d h = absurd (omega arith)
next-higher (a ∷ b ∷ wss) up zero d h = ltb-true (get_or a 0 0) (get_or b 0 0) (and_left (ltb (get_or a 0 0) (get_or b 0 0)) (rising (entries_of (b ∷ wss))) up)
next-higher (a ∷ b ∷ wss) up (suc k) d h = rw (more k) (next-higher (b ∷ wss) (and_right (ltb (get_or a 0 0) (get_or b 0 0)) (rising (entries_of (b ∷ wss))) up) k d (omega arith))

-- the numbers rise, from one on
abbrev pub at_least : ℕ → List Entry → Bool
at_least least [] = true
at_least least (e ∷ es) = leb least e.number && at_least (suc e.number) es

at_least-below : (low high : ℕ) (es : List Entry) → low ≤ high → at_least high es ≡ true → at_least low es ≡ true
at_least-below low high [] h up = refl
at_least-below low high (e ∷ es) h up =
    let l = leb-true high e.number (and_left (leb high e.number) (at_least (suc e.number) es) up) in
    rw (le-leb low e.number (omega arith)) (and_right (leb high e.number) (at_least (suc e.number) es) up)

at_least-behind : (e : Entry) (es : List Entry) → at_least (suc e.number) es ≡ rising (e ∷ es)
at_least-behind e [] = refl
at_least-behind e (f ∷ es) = ap (λ (b : Bool). ltb e.number f.number && b) (at_least-behind f es)

pub at_least_all : (es : List Entry) → at_least 0 es ≡ rising es
at_least_all [] = refl
at_least_all (e ∷ es) = rw (le-leb 0 e.number (omega arith)) (at_least-behind e es)

pub at_least-rest : (least : ℕ) (e : Entry) (es : List Entry) → least ≤ e.number → at_least least (e ∷ es) ≡ rising (e ∷ es)
at_least-rest least e es l = rw (le-leb least e.number l) (at_least-behind e es)

-- ---- an entry out of place

reason_of : (rises : Bool) → ◌≡◌ {A = Result (Unit {0}) Reason} (Err (cond rises BodiesMisplaced NumbersFall)) (checked rises false)
reason_of true = refl
reason_of false = refl

pub told-misplaced : (wss : List (List ℕ)) (k : ℕ) → k < length wss → {e : Entry} → e ≡ entry_of (get_or wss k []) → {least number : ℕ} (at end : ℕ) → number ≡ e.number → least ≤ number
    → {rise place : Bool} → at_least least (entries_of (drop k wss)) ≡ rise → in_place at end (entries_of (drop k wss)) ≡ place
    → (leb e.length 4096 && eqb e.start at) ≡ false
    → {reason : Reason} → reason ≡ cond (rising (entries_of (drop k wss))) BodiesMisplaced NumbersFall → Err reason ≡ checked rise place
told-misplaced wss k h {e} is {least} at end number-is l rise-is place-is out told =
    let on : entries_of (drop k wss) ≡ e ∷ entries_of (drop (k + 1) wss) = rw is (entries-on wss k h) in
    rw (told, ← rise-is, ← place-is, on, at_least-rest least e (entries_of (drop (k + 1) wss)) (omega arith), out)
    (reason_of (rising (e ∷ entries_of (drop (k + 1) wss))))

-- ---- a number looked up

rising-behind : (wss : List (List ℕ)) (k : ℕ) → rising (entries_of wss) ≡ true → rising (entries_of (drop k wss)) ≡ true
rising-behind wss zero up = up
rising-behind [] (suc k) up = refl
rising-behind (a ∷ []) (suc k) up = rw (drop-nil k)
rising-behind (a ∷ b ∷ wss) (suc k) up = rising-behind (b ∷ wss) k (and_right (ltb (get_or a 0 0) (get_or b 0 0)) (rising (entries_of (b ∷ wss))) up)

-- a number below all
none-behind : (number : ℕ) (es : List Entry) → at_least (suc number) es ≡ true → look_up number es ≡ no_scene 25
none-behind number [] low = refl
none-behind number (e ∷ es) low =
    let l = leb-true (suc number) e.number (and_left (leb (suc number) e.number) (at_least (suc e.number) es) low) in
    rw (ne_eqb e.number number (λ z. omega arith))
    (none-behind number es (at_least-below (suc number) (suc e.number) es (omega arith) (and_right (leb (suc number) e.number) (at_least (suc e.number) es) low)))

-- entries whose numbers are below are passed
passed : (number : ℕ) (wss : List (List ℕ)) (k : ℕ) → ((i : ℕ) (d : List ℕ) → i < k → get_or (get_or wss i d) 0 0 < number)
    → look_up number (entries_of wss) ≡ look_up number (entries_of (drop k wss))
passed number wss zero below = refl
passed number [] (suc k) below = refl
passed number (ws ∷ wss) (suc k) below =
    rw (ne_eqb (get_or ws 0 0) number (λ e. omega (arith, below 0 [] (omega arith))))
    (passed number wss k (λ i d h. below (suc i) d (omega arith)))

-- k is the place of the first number that is not below
abbrev pub FirstFrom : List (List ℕ) → ℕ → ℕ → Type 0
FirstFrom wss number k = IsPartitionPoint (λ ws. ltb (get_or ws 0 0) number ≡ true) (λ ws. ltb (get_or ws 0 0) number ≡ false) wss k

-- from what `partition_point` ensures
pub first-from : (wss : List (List ℕ)) (number : ℕ) → rising (entries_of wss) ≡ true → {F : Type 0} {g : Mut F (Bor (List ℕ) × Unit {0}) Bool} {f : F} (k : ℕ)
    → ((q : List ℕ → Bool) → ComputesKey g q f → IsPartitionedBy q wss → IsPartitionPoint (λ ws. q ws ≡ true) (λ ws. q ws ≡ false) wss k)
    → ((a : Bor (List ℕ) × Unit {0}) (r : Bool) (f' : F) → Called g f a r f' → (r ≡ ltb (get_or a.0.now 0 0) number) × (f' ≡ f))
    → FirstFrom wss number k
first-from wss number up k clause each =
    let rise = IsNonDecreasingBy-from_all_adjacent (λ (ws : List ℕ). get_or ws 0 0) wss (λ k d h. omega (arith, next-higher wss up k d h)) in
    IsPartitionPoint-from_clause (λ ws. ltb (get_or ws 0 0) number) wss k clause (IsPartitionedBy-ltb (λ ws. get_or ws 0 0) wss number rise) each

module _ (wss : List (List ℕ)) (number k : ℕ) (first : FirstFrom wss number k) where
  up-to : look_up number (entries_of wss) ≡ look_up number (entries_of (drop k wss))
  up-to = passed number wss k (λ i d h. ltb-true (get_or (get_or wss i d) 0 0) number (first.0 i d (omega arith) h))

  pub found-there : {ws : List ℕ} → k < length wss → ws ≡ get_or wss k [] → get_or ws 0 0 ≡ number
      → ◌≡◌ {A = SceneAnswer} (record { verdict = 0; start = get_or ws 1 0; length = get_or ws 2 0 }) (look_up number (entries_of wss))
  found-there {ws} h is e = rw (up-to, entries-on wss k h, ← is, eq-eqb (get_or ws 0 0) number e)

  pub none-there : length wss ≤ k → no_scene 25 ≡ look_up number (entries_of wss)
  none-there h = rw (up-to, drop_of_length-le wss h)

  pub other-there : rising (entries_of wss) ≡ true → k < length wss → (get_or (get_or wss k []) 0 0 ≡ number → ⊥) → no_scene 25 ≡ look_up number (entries_of wss)
  other-there up h other =
      let e = entry_of (get_or wss k []) in
      let es = entries_of (drop (k + 1) wss) in
      let on = entries-on wss k h in
      let from = ltb-false e.number number (first.1 k [] (omega arith) h) in
      let behind : at_least (suc e.number) es ≡ true = at_least-behind e es ∙ rw on at (rising-behind wss k up) in
      rw (up-to, on) (sym (none-behind number (e ∷ es) (rw (le-leb (suc number) e.number (omega arith)) behind)))

-- ---- a table cut short, and one that is not

pub made : (n : ℕ) (ws : List ℕ) {wss : List (List ℕ)} → n ≤ 256 → n ≤ length wss → wss ≡ first_chunks 3 (length ws / 3) ws → length wss ≡ length ws / 3
    → ((ltb 256 n || ltb (length ws) (3 * n)) ≡ false) × (length (take n wss) ≡ n) × (entries_of (take n wss) ≡ entries n ws)
made n ws {wss} few long is count = (rw (le-ltb 256 n few, le-ltb (length ws) (3 * n) (omega arith)), length-take-le n wss long, rw is (first-entries n (length ws / 3) ws (omega arith)))
