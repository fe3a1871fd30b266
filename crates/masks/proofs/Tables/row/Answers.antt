use Rattle.table.proofs.Tables.{row_at_lem}
use Rattle.masks.proofs.Tables.row.Goals as goal

pub returns : goal.returns
returns c = row_at_lem c.args.id c.ranges.id.fits _ c.args.self.now.rows_are
