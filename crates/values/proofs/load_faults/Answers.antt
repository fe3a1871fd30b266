use native.Mathlib.Nat.{div-one}
use Rattle.values.specs.Broken.{load_broken}
use Rattle.values.proofs.load_faults.Goals as goal

pub returns : goal.returns
unfolding load_broken
returns c = rw (c.or.ensures, c.then_some.ensures, c.then_some-range.ensures, div-one)
