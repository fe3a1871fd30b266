-- Answers as 32-bit words.
use Rattle.std.specs.Prelude.{◌^◌, ◌<◌}
use Rattle.rules.specs.Verdict.{Answer}

-- every number of an answer fits a 32-bit word
pub record FitsWords (a : Answer) : Type 0 where
  pub position : a.position < 2 ^ 32
  pub commands : a.commands < 2 ^ 32
  pub records : a.records < 2 ^ 32
  pub words : a.words < 2 ^ 32
