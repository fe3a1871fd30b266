use mathlib.Core.Path.{◌∙◌}
use Rattle.rules.specs.Table.{table, row_of}
use Rattle.table.specs.Ids.{group_id, groups}
use Rattle.table.proofs.Tables.{group-is}
use Rattle.table.proofs.is_group.Goals as goal

pub returns : goal.returns
unfolding groups group_id row_of table
returns c = c.in_set.ensures ∙ group-is c.args.id c.ranges.id.fits
