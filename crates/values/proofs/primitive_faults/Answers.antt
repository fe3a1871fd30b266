use mathlib.Core.Path.{refl}
use Rattle.values.specs.Broken.{primitive_broken}
use Rattle.values.proofs.primitive_faults.Goals as goal

pub returns : goal.returns
unfolding primitive_broken
returns c = refl
