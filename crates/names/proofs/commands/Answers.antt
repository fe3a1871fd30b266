use mathlib.Core.Path.{refl}
use Rattle.names.specs.Names.{commands}
use Rattle.names.proofs.commands.Goals as goal

pub returns : goal.returns
unfolding commands
returns c = refl
