-- The words got, put one by one, and calls on them.
use Prim.Native.Nat.{ℕ, ◌+◌, ◌<◌, ◌≤◌}
use native.Mathlib.Numerals.{add-one}
use native.Mathlib.Omega.{arith}
use mathlib.Core.Path.{◌≡◌, ap, sym, ◌∙◌}
use mathlib.Core.Bool.{true}
use mathlib.Core.List.{List}
use lib.Dec.{ltb}
use lib.ListN.{length, get_or, take, set}
use lib.Seq.{take-suc, take-suc-set}
use Rattle.rules.specs.Walk.{parse}
use Rattle.rules.specs.Answer.{reading, normalising}
use Rattle.rules.specs.Swap.{swap, words_got, Call, in_mode}
use Rattle.theory.proofs.Modes.{up_to_three}
use Rattle.swap.specs.declared.Mode.{Mode}
use Rattle.swap.specs.declared.Mode.TheVariants as mode
use Rattle.swap.specs.Mode.{mode_number}
use Rattle.theory.proofs.Swap.{got_length, got_zero, word_got}

-- a loop that puts a word at each turn
pub got_more : (mode : ℕ) (ws room : List ℕ) (i : ℕ) {w : ℕ} → i < length ws → i < length room → take i room ≡ take i (words_got mode ws)
    → w ≡ swap mode (get_or ws i 0) → take (i + 1) (set room i w) ≡ take (i + 1) (words_got mode ws)
got_more mode ws room i h k e v =
    let n : i < length (words_got mode ws) = omega (arith, got_length mode ws) in
    rw (add-one, take-suc-set room i, take-suc (words_got mode ws) i 0, word_got mode ws i h, v, e)

-- there are no modes but those of the papers
numbers : (m : Mode) → mode_number m ≤ 3
numbers mode.Unchanged = omega arith
numbers mode.BytesInHalves = omega arith
numbers mode.Halves = omega arith
numbers mode.AllBytes = omega arith

module _ (call : Call) (ws image buffer : List ℕ) where
  pub in_numbered : (m : Mode) {mode : ℕ} → mode_number m ≡ mode → call (words_got (mode_number m) ws) image buffer ≡ in_mode call ws image buffer mode
  in_numbered m e = sym (up_to_three call ws image buffer (mode_number m) (numbers m)) ∙ ap (in_mode call ws image buffer) e

  -- mode 0 leaves the words
  pub in_unchanged : {mode : ℕ} → 0 ≡ mode → call ws image buffer ≡ in_mode call ws image buffer mode
  in_unchanged e = ap (λ (l : List ℕ). call l image buffer) (sym (got_zero ws)) ∙ in_numbered mode.Unchanged e

module _ (mode : ℕ) (ws image buffer : List ℕ) where
  -- a list too long is refused whatever its words are
  module _ (h : ltb 4096 (length ws) ≡ true) where
    pub read-long : reading ws image buffer ≡ reading (words_got mode ws) image buffer
    unfolding reading parse
    read-long = rw (got_length mode ws, h)

    pub normalise-long : normalising ws image buffer ≡ normalising (words_got mode ws) image buffer
    unfolding normalising parse
    normalise-long = rw (got_length mode ws, h)
