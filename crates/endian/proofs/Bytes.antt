-- The bytes of some words.
use Prim.Native.Nat.{ℕ, ◌+◌, ◌*◌, ◌≤◌, ◌<◌}
use native.Mathlib.Omega.{arith}
use native.Mathlib.Numerals.{add-one}
use mathlib.Core.Path.{◌≡◌, refl, ap, ap₂, ◌∙◌}
use mathlib.Core.List.{List, [], ◌∷◌, ◌++◌}
use lib.ListN.{length, get_or, take}
use lib.Seq.{sets, take-suc, length-take-le}
use Rattle.theory.proofs.Image.{sets_append}
use Rattle.theory.proofs.Bytes.{Words, word_again}
use Rattle.endian.specs.Words.{words_of, word_bytes, bytes_of}

pub bytes-length : (ws : List ℕ) → length (bytes_of ws) ≡ 4 * length ws
unfolding bytes_of
bytes-length [] = omega arith
bytes-length (w ∷ ws) = omega (arith, bytes-length ws)

bytes_append : (p : List ℕ) (w : ℕ) → bytes_of (p ++ (w ∷ [])) ≡ bytes_of p ++ word_bytes w
unfolding bytes_of
bytes_append [] w = refl
bytes_append (v ∷ p) w = ap (λ (l : List ℕ). word_bytes v ++ l) (bytes_append p w)

-- a loop that puts a word at each turn
module _ (ws before : List ℕ) where
  pub bytes-more : (i : ℕ) {now then : List ℕ} → i < length ws → now ≡ sets before 0 (bytes_of (take i ws))
      → then ≡ sets now (4 * i) (word_bytes (get_or ws i 0)) → then ≡ sets before 0 (bytes_of (take (i + 1) ws))
  bytes-more i h e f =
      let s : take (i + 1) ws ≡ take i ws ++ (get_or ws i 0 ∷ []) = rw add-one (take-suc ws i 0 h) in
      let k : 0 + length (bytes_of (take i ws)) ≡ 4 * i = omega (arith, bytes-length (take i ws), length-take-le i ws (omega arith)) in
      rw (s, bytes_append (take i ws) (get_or ws i 0), sets_append before 0 (bytes_of (take i ws)) (word_bytes (get_or ws i 0)), k)
      (f ∙ ap (λ (l : List ℕ). sets l (4 * i) (word_bytes (get_or ws i 0))) e)

-- ---- there and back

-- the words of the bytes of some words are these
pub words_again : (ws : List ℕ) → Words ws → words_of (bytes_of ws) ≡ ws
unfolding words_of bytes_of
words_again [] h = refl
words_again (w ∷ ws) h = ap₂ {C = List ℕ} (λ x xs. x ∷ xs) (word_again w h.0) (words_again ws h.1)
