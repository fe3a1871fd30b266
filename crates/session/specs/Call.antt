-- What a session has of a single call.
use Rattle.std.specs.Prelude.{◌≤◌}
use Rattle.rules.specs.Verdict.{Answer}

-- counts that a session can add up
pub record IsFew (a : Answer) : Type 0 where
  pub commands : a.commands ≤ 4096
  pub records : a.records ≤ 4096
  pub words : a.words ≤ 16384
