-- What a writer's methods promise.
use Rattle.std.specs.Prelude.{ℕ, ◌≡◌, List}
use Rattle.text.specs.declared.Writer.{Writer}
use Rattle.text.specs.Puts.{Puts, Bounded}

-- a writer put `part` over its text, from its position on
pub record Wrote (part : List ℕ) (before after : Writer) : Type 0 where
  pub same-reference : after.text.ghost_name ≡ before.text.ghost_name
  pub puts : Bounded before.at part → Puts part before.text.now before.at after.text.now after.at
