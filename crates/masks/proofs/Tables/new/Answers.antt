use mathlib.Core.Path.{refl}
use Rattle.table.specs.Tables.{mask_table}
use Rattle.masks.proofs.Tables.new.Goals as goal

-- the one test over the whole table: computed, the constant's own words are the masks of document 01's table
pub invariant_of-result-clause-masks_are : goal.invariant_of-result-clause-masks_are
unfolding mask_table
invariant_of-result-clause-masks_are c = refl
