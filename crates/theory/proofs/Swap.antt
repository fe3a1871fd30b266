-- The words got from a list (document 02, Ticket 7): swapping twice, and where they stand.
use Prim.Native.Nat.{ℕ, zero, suc, ◌/◌, ◌^◌, ◌<◌}
use native.Mathlib.Omega.{arith}
use mathlib.Core.Path.{◌≡◌, refl, ap, ap₂, ◌∙◌}
use mathlib.Core.List.{List, [], ◌∷◌}
use lib.ListN.{length, get_or, length-map}
use Rattle.rules.specs.Word.{little_endian}
use Rattle.rules.specs.Swap.{swap, words_got}
use Rattle.theory.proofs.Bytes.{Words, word_again, low_bytes}

-- "One fact about all four modes, that swapping twice gives the word back, is proved once."
pub swap_twice : (mode w : ℕ) → w < 2 ^ 32 → swap mode (swap mode w) ≡ w
unfolding swap
swap_twice zero w h = refl
swap_twice (suc zero) w h = low_bytes (λ a b c d. little_endian b a d c) (w / 0x100) w (w / 0x1000000) (w / 0x10000) ∙ word_again w h
swap_twice (suc (suc zero)) w h = low_bytes (λ a b c d. little_endian c d a b) (w / 0x10000) (w / 0x1000000) w (w / 0x100) ∙ word_again w h
swap_twice (suc (suc (suc _))) w h = low_bytes (λ a b c d. little_endian d c b a) (w / 0x1000000) (w / 0x10000) (w / 0x100) w ∙ word_again w h

pub got_length : (mode : ℕ) (ws : List ℕ) → length (words_got mode ws) ≡ length ws
got_length mode ws = length-map ws (swap mode)

-- "The word got at a position is now the swapped one"
pub word_got : (mode : ℕ) (ws : List ℕ) (i : ℕ) → i < length ws → get_or (words_got mode ws) i 0 ≡ swap mode (get_or ws i 0)
word_got mode [] i h = absurd (omega arith)
word_got mode (w ∷ ws) zero h = refl
word_got mode (w ∷ ws) (suc i) h = word_got mode ws i (omega arith)

pub got_twice : (mode : ℕ) (ws : List ℕ) → Words ws → words_got mode (words_got mode ws) ≡ ws
got_twice mode [] h = refl
got_twice mode (w ∷ ws) h = ap₂ {C = List ℕ} (λ x xs. x ∷ xs) (swap_twice mode w h.0) (got_twice mode ws h.1)

pub got_zero : (ws : List ℕ) → words_got 0 ws ≡ ws
unfolding swap
got_zero [] = refl
got_zero (w ∷ ws) = ap {B = List ℕ} (λ l. w ∷ l) (got_zero ws)
