use native.Mathlib.Omega.{arith}
use Rattle.rules.specs.Pci.{address}
use Rattle.pairs.proofs.Pairs.{count-some, count-few}
use Rattle.pairs.proofs.address.Goals as goal

pub nonzero_rem-result : goal.nonzero_rem-result
nonzero_rem-result c = omega (arith, count-some _ _ c.address_count.ensures)

pub overflow_cast-result-2 : goal.overflow_cast-result-2
overflow_cast-result-2 c = omega (arith, count-few _ _ c.args.word c.address_count.ensures)

pub overflow_mul-result-2 : goal.overflow_mul-result-2
overflow_mul-result-2 c = omega (arith, count-few _ _ c.args.word c.address_count.ensures)

pub overflow_add-result-2 : goal.overflow_add-result-2
overflow_add-result-2 c = omega (arith, c.ranges.id.fits, count-few _ _ c.args.word c.address_count.ensures)

pub returns : goal.returns
unfolding address
returns c = rw c.address_count.ensures
