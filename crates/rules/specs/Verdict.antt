-- Verdicts as the papers have them: numbers.
use Rattle.std.specs.Prelude.{ℕ}

-- "A bad list is refused with a number and a word position." "With 6, the answer now also gives the number of the lowest
-- undefined bit set in that word; every other verdict gives 32 there."
pub record Refusal : Type 0 where
  pub number : ℕ
  pub bit : ℕ
  pub word : ℕ

-- "The answer has verdict, position, commands, records, and words written to the lent buffer", and the bit.
pub record Answer : Type 0 where
  pub verdict : ℕ
  pub bit : ℕ
  pub position : ℕ
  pub commands : ℕ
  pub records : ℕ
  pub words : ℕ

-- the answer of a call on several lists, and how many of them are applied
pub record SessionAnswer : Type 0 where
  pub answer : Answer
  pub lists : ℕ

-- the verdict of a question for a scene, and where in the book its words are
pub record SceneAnswer : Type 0 where
  pub verdict : ℕ
  pub start : ℕ
  pub length : ℕ

-- the verdict of a book's writer, and the words written
pub record BookAnswer : Type 0 where
  pub verdict : ℕ
  pub words : ℕ
