use mathlib.Core.Path.{refl}
use Rattle.names.specs.Names.{refusals}
use Rattle.names.proofs.refusals.Goals as goal

pub returns : goal.returns
unfolding refusals
returns c = refl
