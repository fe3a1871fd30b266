-- What holds of a list as it is.
use Rattle.std.specs.Prelude.{ℕ, List, ◌≤◌, length}
use native.Mathlib.Omega.{arith}

pub all_fit : (b : List ℕ) → length b ≤ length b
all_fit b = omega arith
