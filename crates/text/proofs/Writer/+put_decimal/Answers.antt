use native.Mathlib.Omega.{arith}
use Rattle.text.proofs.Parts.{wrote_then}
use Rattle.text.proofs.Numbers.{decimal-one, decimal-more}
use Rattle.text.proofs.Writer.+put_decimal.Goals as goal

pub returns-then-n-lt10 : goal.returns-then-n-lt10
returns-then-n-lt10 t c = rw (decimal-one _ c.if-n-lt10.true, ← c.digit.ensures) c.put.ensures

pub returns : goal.returns
returns t c = rw (decimal-more _ (omega (arith, c.if-n-lt10.false)) c.ranges.n.fits, ← c.digit-2.ensures) (wrote_then c.put_decimal.ensures c.put-2.ensures)
