use native.Mathlib.Omega.{arith}
use mathlib.Core.Path.{ap, ◌∙◌}
use borrow.Author.Tests.{ne_eqb}
use Rattle.rules.specs.Values.{value_faults}
use Rattle.values.specs.First.{found, first_of}
use Rattle.values.proofs.Broken.{clip_first, raster_first}
use Rattle.faults.proofs.bad_other.Goals as goal

pub returns-in-132 : goal.returns-in-132
unfolding value_faults
returns-in-132 c = rw c.in-132.is (c.any.ensures ∙ ap found (ap first_of c.clip_faults.ensures ∙ clip_first _))

pub returns-in-136 : goal.returns-in-136
unfolding value_faults
returns-in-136 c = rw c.in-136.is (c.any-in-136.ensures ∙ ap found (ap first_of c.raster_faults.ensures ∙ raster_first _))

pub returns-in_default : goal.returns-in_default
unfolding value_faults
returns-in_default c = rw (ne_eqb c.args.id 0x40 c.requires.0, ne_eqb c.args.id 0x48 c.requires.1, ne_eqb c.args.id 0x84 (omega arith), ne_eqb c.args.id 0x88 (omega arith))
