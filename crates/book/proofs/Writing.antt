-- The writer: what its loop leaves in the book.
use Rattle.std.proofs.Common.{◌≡◌, ℕ, suc, ◌+◌, ◌-◌, ◌*◌, ◌≤◌, ◌<◌, true, List, [], ◌∷◌, length, get_or, take, drop, set, refl, ap, sym, ◌∙◌, arith, length-append, drop_of_length-le}
use lib.Seq.{sets, set_comm}
use Rattle.rules.specs.declared.Entry.{Entry}
use Rattle.rules.specs.Book.{body_in, bodies_at, scenes_in, contents_of, bodies, in_buffer}
use Rattle.theory.proofs.Image.{sets_append}
use Rattle.theory.proofs.Contents.{body-length, inside}
use Rattle.theory.proofs.Scenes.{contents-length}
use Rattle.book.specs.Tables.{entry_of, entries_of, total, book_size, CanPut, with_scene, with_scenes, with_book}
use Rattle.book.proofs.Entries.{entries_length, entries-on}

-- ---- one scene

-- the three words of an entry, then the body
pub scene-put : (ws book : List ℕ) (i at : ℕ) (e : Entry)
    → sets (set (set (set book i e.number) (i + 1) at) (i + 2) e.length) at (take (e.start + e.length - e.start) (drop e.start ws)) ≡ with_scene ws i at e book
scene-put ws book i at e =
    let m : e.start + e.length - e.start ≡ e.length = omega arith in
    let one : i + 1 ≡ suc i = omega arith in
    let two : i + 2 ≡ suc (suc i) = omega arith in
    rw (m, one, two) refl

-- ---- all scenes, one after the other

-- runs that lie apart
set_sets : (l : List ℕ) (i x j : ℕ) (ys : List ℕ) → i < j → set (sets l j ys) i x ≡ sets (set l i x) j ys
set_sets l i x j [] h = refl
set_sets l i x j (y ∷ ys) h = set_sets (set l j y) i x (suc j) ys (omega arith) ∙ ap (λ (m : List ℕ). sets m (suc j) ys) (set_comm l j i y x (λ e. omega arith))

sets_sets : (l : List ℕ) (i : ℕ) (xs : List ℕ) (j : ℕ) (ys : List ℕ) → i + length xs ≤ j → sets (sets l j ys) i xs ≡ sets (sets l i xs) j ys
sets_sets l i [] j ys h = refl
sets_sets l i (x ∷ xs) j ys h = ap (λ (m : List ℕ). sets m (suc i) xs) (set_sets l i x j ys (omega arith)) ∙ sets_sets (set l i x) (suc i) xs j ys (omega arith)

-- entry by entry is first the contents, then the bodies
scenes-put : (ws : List ℕ) (i at : ℕ) (es : List Entry) (book : List ℕ) → in_buffer (length ws) es ≡ true → i + length (contents_of at (scenes_in ws es)) ≤ at
    → with_scenes ws i at es book ≡ sets (sets book i (contents_of at (scenes_in ws es))) at (bodies (scenes_in ws es))
scenes-put ws i at [] book h l = refl
scenes-put ws i at (e ∷ es) book h l =
    let p = inside (length ws) e es h in
    let len = body-length ws e p.inside in
    let more : List ℕ = contents_of (at + e.length) (scenes_in ws es) in
    let X : List ℕ = sets book i (e.number ∷ at ∷ e.length ∷ []) in
    let room : 3 + i + length more ≤ at = omega (arith, rw len at l) in
    let e3 : 3 + i ≡ suc (suc (suc i)) = omega arith in
    rw (len, ← e3)
    (scenes-put ws (3 + i) (at + e.length) es (sets X at (body_in ws e)) p.rest (omega arith)
    ∙ ap (λ (m : List ℕ). sets m (at + e.length) (bodies (scenes_in ws es))) (sets_sets X (3 + i) more at (body_in ws e) room)
    ∙ ap (λ (m : ℕ). sets (sets (sets X (3 + i) more) at (body_in ws e)) (at + m) (bodies (scenes_in ws es))) (sym len)
    ∙ sym (sets_append (sets X (3 + i) more) at (body_in ws e) (bodies (scenes_in ws es))))

pub scenes-count : (ws : List ℕ) (es : List Entry) → length (scenes_in ws es) ≡ length es
scenes-count ws [] = refl
scenes-count ws (e ∷ es) = ap suc (scenes-count ws es)

pub bodies-length : (ws : List ℕ) (es : List Entry) → in_buffer (length ws) es ≡ true → length (bodies (scenes_in ws es)) ≡ total es
bodies-length ws [] h = refl
bodies-length ws (e ∷ es) h =
    let p = inside (length ws) e es h in
    omega (arith, length-append (body_in ws e) (bodies (scenes_in ws es)), body-length ws e p.inside, bodies-length ws es p.rest)

pub total-few : (words : ℕ) (es : List Entry) → in_buffer words es ≡ true → total es ≤ 4096 * length es
total-few words [] h = omega arith
total-few words (e ∷ es) h = let p = inside words e es h in omega (arith, p.short, total-few words es p.rest)

module _ (wss : List (List ℕ)) (ws : List ℕ) where
  module _ (k at : ℕ) (book : List ℕ) (h : k < length wss) {e : Entry} (is : e ≡ entry_of (get_or wss k [])) where
    on : entries_of (drop k wss) ≡ e ∷ entries_of (drop (k + 1) wss)
    on = rw is (entries-on wss k h)

    pub can_put : length wss ≤ 256 → in_buffer (length ws) (entries_of wss) ≡ true → in_buffer (length ws) (entries_of (drop k wss)) ≡ true
        → at + total (entries_of (drop k wss)) ≡ book_size (entries_of wss) → book_size (entries_of wss) ≤ length book → CanPut e ws (3 * k + 1) at book
    can_put few all rest sum room =
        let p = inside (length ws) e (entries_of (drop (k + 1) wss)) (rw on at rest) in
        let little = total-few (length ws) (entries_of wss) all in
        let count = entries_length wss in
        let sum-on = ap total on in
        record { short = p.short; inside = p.inside; entry = omega arith; body = omega arith; word = omega arith }

  pub whole : (k : ℕ) (book before : List ℕ) (at : ℕ) → length wss ≤ k → in_buffer (length ws) (entries_of wss) ≡ true
      → with_scenes ws (3 * k + 1) at (entries_of (drop k wss)) book ≡ with_scenes ws 1 (bodies_at (length wss)) (entries_of wss) (set before 0 (length wss))
      → book ≡ with_book ws (entries_of wss) before
  whole k book before at h all same =
      let es = entries_of wss in
      let ss = scenes_in ws es in
      let count : length ss ≡ length wss = scenes-count ws es ∙ entries_length wss in
      let long = contents-length (bodies_at (length wss)) ss in
      let l : 1 + length (contents_of (bodies_at (length wss)) ss) ≡ bodies_at (length wss) = omega arith in
      ap (λ (rest : List (List ℕ)). with_scenes ws (3 * k + 1) at (entries_of rest) book) (sym (drop_of_length-le wss h))
      ∙ same
      ∙ scenes-put ws 1 (bodies_at (length wss)) es (set before 0 (length wss)) all (omega arith)
      ∙ rw (count, sets_append (set before 0 (length wss)) 1 (contents_of (bodies_at (length wss)) ss) (bodies ss), l)
