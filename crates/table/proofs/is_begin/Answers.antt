use Rattle.table.proofs.Tables.{begin_is}
use Rattle.table.proofs.is_begin.Goals as goal

pub returns : goal.returns
returns c = begin_is c.args.id c.ranges.id.fits
