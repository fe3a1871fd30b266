use Rattle.rules.specs.Table.{table, row_of}
use Rattle.table.specs.Ids.{kept_id, kept_ids}
use Rattle.table.proofs.Tables.{kept-is}
use Rattle.table.proofs.keeps_header.Goals as goal

pub returns : goal.returns
unfolding kept_ids kept_id row_of table
returns c = kept-is c.args.id c.ranges.id.fits
