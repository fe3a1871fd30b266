-- The words of some bytes.
use Prim.Native.Nat.{ℕ, zero, suc, ◌+◌, ◌*◌, ◌/◌, ◌≤◌, ◌<◌}
use native.Mathlib.Omega.{arith}
use mathlib.Core.Path.{◌≡◌, refl, ap, ap₂, ◌∙◌}
use mathlib.Core.List.{List, [], ◌∷◌}
use lib.ListN.{length, get_or, take, set}
use lib.Seq.{sets, sets-eq, take_at, length-take-le}
use Rattle.std.specs.Int.{w32, from_le_bytes}
use Rattle.std.specs.Simd.{first_chunks}
use Rattle.rules.specs.Word.{little_endian}
use Rattle.endian.specs.Words.{words_of}
use Rattle.theory.proofs.Image.{sets_append}
use Rattle.endian.proofs.Chunks.{chunks-more, chunks-all}

pub words-length : (bs : List ℕ) → length (words_of bs) ≡ length bs / 4
unfolding words_of
words-length [] = omega arith
words-length (a ∷ []) = omega arith
words-length (a ∷ b ∷ []) = omega arith
words-length (a ∷ b ∷ c ∷ []) = omega arith
words-length (a ∷ b ∷ c ∷ d ∷ bs) = omega (arith, words-length bs)

abbrev word : ℕ → ℕ → ℕ → ℕ → List ℕ
word a b c d = little_endian a b c d ∷ []

abbrev word_at : List ℕ → ℕ → ℕ
word_at bs i = little_endian (get_or bs i 0) (get_or bs (i + 1) 0) (get_or bs (i + 2) 0) (get_or bs (i + 3) 0)

-- the word of a chunk
pub chunk-word : (k i : ℕ) (bs : List ℕ) → i < k → 4 * k ≤ length bs → from_le_bytes w32 (get_or (first_chunks 4 k bs) i []) ≡ word_at bs (4 * i)
chunk-word (suc k) zero (a ∷ b ∷ c ∷ d ∷ bs) h g = refl
chunk-word (suc k) (suc i) (a ∷ b ∷ c ∷ d ∷ bs) h g =
    let n0 : 4 * suc i ≡ suc (suc (suc (suc (4 * i)))) = omega arith in
    let n1 : suc (suc (suc (suc (4 * i)))) + 1 ≡ suc (suc (suc (suc (4 * i + 1)))) = omega arith in
    let n2 : suc (suc (suc (suc (4 * i)))) + 2 ≡ suc (suc (suc (suc (4 * i + 2)))) = omega arith in
    let n3 : suc (suc (suc (suc (4 * i)))) + 3 ≡ suc (suc (suc (suc (4 * i + 3)))) = omega arith in
    rw (n0, n1, n2, n3) (chunk-word k i bs (omega arith) (omega arith))
chunk-word zero i bs h g = absurd (omega arith)
chunk-word (suc k) i [] h g = absurd (omega arith)
chunk-word (suc k) i (a ∷ []) h g = absurd (omega arith)
chunk-word (suc k) i (a ∷ b ∷ []) h g = absurd (omega arith)
chunk-word (suc k) i (a ∷ b ∷ c ∷ []) h g = absurd (omega arith)

-- a loop that puts a word at each turn
module _ (bs before : List ℕ) where
  pub words_more : (i : ℕ) {w : ℕ} {now then : List ℕ} → i < length bs / 4 → now ≡ sets before 0 (words_of (take (4 * i) bs))
      → w ≡ word_at bs (4 * i) → then ≡ set now i w → then ≡ sets before 0 (words_of (take (4 * (i + 1)) bs))
  unfolding words_of
  words_more i h e v f =
      let k : length (words_of (take (4 * i) bs)) ≡ i = omega (arith, words-length (take (4 * i) bs), length-take-le (4 * i) bs (omega arith)) in
      let z : 0 + i ≡ i = omega arith in
      rw (chunks-more word bs i (omega arith), sets_append before 0 (words_of (take (4 * i) bs)) (word_at bs (4 * i) ∷ []), k, z)
      (f ∙ ap₂ (λ (l : List ℕ) (x : ℕ). set l i x) e v)

  pub words-all : (i : ℕ) {after : List ℕ} → 4 * i ≤ length bs → length bs / 4 ≤ i → after ≡ sets before 0 (words_of (take (4 * i) bs))
      → after ≡ sets before 0 (words_of bs)
  unfolding words_of
  words-all i h g e = e ∙ ap (sets before 0) (chunks-all word bs i h g)

  -- they stand in front
  pub words_front : length bs / 4 ≤ length before → take (length bs / 4) (sets before 0 (words_of bs)) ≡ words_of bs
  words_front h =
      let k = words-length bs in
      ap (take (length bs / 4)) (sets-eq (words_of bs) before 0 (omega (arith, k))) ∙ take_at (words_of bs) _ (length bs / 4) k
