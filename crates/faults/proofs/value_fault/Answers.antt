use native.Mathlib.Omega.{arith}
use mathlib.Core.Path.{ap, ◌∙◌}
use borrow.Author.Tests.{ne_eqb}
use Rattle.rules.specs.Values.{value_faults}
use Rattle.values.specs.First.{first_of}
use Rattle.values.proofs.Broken.{load-first, primitive_first, clip_first, raster_first}
use Rattle.faults.proofs.value_fault.Goals as goal

pub returns-in-64 : goal.returns-in-64
unfolding value_faults
returns-in-64 c = rw c.in-64.is (c.first.ensures ∙ ap first_of c.load_faults.ensures ∙ load-first _)

pub returns-in-72 : goal.returns-in-72
unfolding value_faults
returns-in-72 c = rw c.in-72.is (c.first-in-72.ensures ∙ ap first_of c.primitive_faults.ensures ∙ primitive_first _)

pub returns-in-132 : goal.returns-in-132
unfolding value_faults
returns-in-132 c = rw c.in-132.is (c.first-in-132.ensures ∙ ap first_of c.clip_faults.ensures ∙ clip_first _)

pub returns-in-136 : goal.returns-in-136
unfolding value_faults
returns-in-136 c = rw c.in-136.is (c.first-in-136.ensures ∙ ap first_of c.raster_faults.ensures ∙ raster_first _)

pub returns-in_default : goal.returns-in_default
unfolding value_faults
returns-in_default c = rw (ne_eqb c.args.id 0x40 (omega arith), ne_eqb c.args.id 0x48 (omega arith), ne_eqb c.args.id 0x84 (omega arith), ne_eqb c.args.id 0x88 (omega arith))
