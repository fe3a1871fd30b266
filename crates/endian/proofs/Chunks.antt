-- Chunks of four, as a loop goes through them.
use Prim.Native.Nat.{ℕ, ◌+◌, ◌*◌, ◌/◌, ◌%◌, ◌≤◌, ◌<◌}
use native.Mathlib.Omega.{arith}
use mathlib.Core.Path.{◌≡◌, refl, ap, sym, ◌∙◌}
use mathlib.Core.List.{List, [], ◌∷◌, ◌++◌, append_assoc, append-nil}
use lib.ListN.{length, get_or, take, drop, length-append, length-drop, take-append-drop}
use lib.Seq.{take-add, get_or-drop, length-take-le}
use Rattle.endian.specs.Words.{chunks}

module _ (f : ℕ → ℕ → ℕ → ℕ → List ℕ) where
  pub chunks_append : (p q : List ℕ) → length p % 4 ≡ 0 → chunks f (p ++ q) ≡ chunks f p ++ chunks f q
  chunks_append [] q h = refl
  chunks_append (a ∷ []) q h = absurd (omega arith)
  chunks_append (a ∷ b ∷ []) q h = absurd (omega arith)
  chunks_append (a ∷ b ∷ c ∷ []) q h = absurd (omega arith)
  chunks_append (a ∷ b ∷ c ∷ d ∷ p) q h =
      ap (λ (l : List ℕ). f a b c d ++ l) (chunks_append p q (omega arith)) ∙ sym (append_assoc (f a b c d) (chunks f p) (chunks f q))

  chunks-few : (l : List ℕ) → length l < 4 → chunks f l ≡ []
  chunks-few [] h = refl
  chunks-few (a ∷ []) h = refl
  chunks-few (a ∷ b ∷ []) h = refl
  chunks-few (a ∷ b ∷ c ∷ []) h = refl
  chunks-few (a ∷ b ∷ c ∷ d ∷ l) h = absurd (omega arith)

  abbrev chunk_at : List ℕ → ℕ → List ℕ
  chunk_at l i = f (get_or l i 0) (get_or l (i + 1) 0) (get_or l (i + 2) 0) (get_or l (i + 3) 0)

  chunks-one : (l : List ℕ) → 4 ≤ length l → chunks f (take 4 l) ≡ f (get_or l 0 0) (get_or l 1 0) (get_or l 2 0) (get_or l 3 0)
  chunks-one [] h = absurd (omega arith)
  chunks-one (a ∷ []) h = absurd (omega arith)
  chunks-one (a ∷ b ∷ []) h = absurd (omega arith)
  chunks-one (a ∷ b ∷ c ∷ []) h = absurd (omega arith)
  chunks-one (a ∷ b ∷ c ∷ d ∷ l) h = append-nil (f a b c d)

  module _ (l : List ℕ) (j : ℕ) where
    chunks_split : 4 * j ≤ length l → chunks f l ≡ chunks f (take (4 * j) l) ++ chunks f (drop (4 * j) l)
    chunks_split h =
        ap (chunks f) (sym (take-append-drop (4 * j) l))
        ∙ chunks_append (take (4 * j) l) (drop (4 * j) l) (omega (arith, length-take-le (4 * j) l h))

    -- one more
    pub chunks-more : 4 * j + 3 < length l → chunks f (take (4 * (j + 1)) l) ≡ chunks f (take (4 * j) l) ++ chunk_at l (4 * j)
    chunks-more h =
        let e : 4 * (j + 1) ≡ 4 * j + 4 = omega arith in
        let z : 4 * j + 0 ≡ 4 * j = omega arith in
        let k : length (take (4 * j) l) ≡ 4 * j = length-take-le (4 * j) l (omega arith) in
        rw (
          e,
          take-add (4 * j) 4 l,
          chunks_append (take (4 * j) l) (take 4 (drop (4 * j) l)) (omega (arith, k)),
          chunks-one (drop (4 * j) l) (omega (arith, length-drop (4 * j) l)),
          get_or-drop (4 * j) l 0 0,
          get_or-drop (4 * j) l 1 0,
          get_or-drop (4 * j) l 2 0,
          get_or-drop (4 * j) l 3 0,
          z,
        )

    -- all
    pub chunks-all : 4 * j ≤ length l → length l / 4 ≤ j → chunks f (take (4 * j) l) ≡ chunks f l
    chunks-all h g =
        sym (append-nil _) ∙ ap (λ (r : List ℕ). chunks f (take (4 * j) l) ++ r) (sym (chunks-few (drop (4 * j) l) (omega (arith, length-drop (4 * j) l))))
        ∙ sym (chunks_split h)

  -- what has been made and one more is no longer than the whole
  pub chunks-bound : (l : List ℕ) (j : ℕ) → 4 * j + 3 < length l → length (chunks f (take (4 * j) l)) + length (chunk_at l (4 * j)) ≤ length (chunks f l)
  chunks-bound l j h =
      omega (
        arith,
        ap length (chunks_split l (j + 1) (omega arith)),
        length-append (chunks f (take (4 * (j + 1)) l)) (chunks f (drop (4 * (j + 1)) l)),
        ap length (chunks-more l j h),
        length-append (chunks f (take (4 * j) l)) (chunk_at l (4 * j)),
      )
