-- What the functions that write a part of the text promise.
use Rattle.std.specs.Prelude.{ℕ, ◌+◌, ◌^◌, ◌<◌, ◌≡◌, List, length}
use Rattle.std.proofs.lemmas.List.Edits.{sets}

-- from position `at` on, `part` was put over a text, so that the next position is `next`. Past the text's end nothing is
-- put.
pub record Puts (part before : List ℕ) (at : ℕ) (after : List ℕ) (next : ℕ) : Type 0 where
  pub next-is : next ≡ at + length part
  pub text-is : after ≡ sets before at part

-- the position behind a part that starts at `at` is a position
pub record Bounded (at : ℕ) (part : List ℕ) : Type 0 where
  pub bound : at + length part < 2 ^ 64
