use mathlib.Core.Path.{sym, ◌∙◌}
use Rattle.rules.specs.Table.{table, row_of}
use Rattle.table.specs.Ids.{setting_id, group_id, setting_kind, group_settings}
use Rattle.table.proofs.Tables.{kind-is}
use Rattle.table.proofs.Settings.kind.Goals as goal

pub returns-then-in_set : goal.returns-then-in_set
unfolding group_settings setting_kind setting_id group_id row_of table
returns-then-in_set c = rw (sym c.in_set.ensures ∙ c.if-in_set.true) at (kind-is c.args.id c.ranges.id.fits)

pub returns-then-id : goal.returns-then-id
unfolding group_settings setting_kind setting_id group_id row_of table
returns-then-id c = rw (sym c.in_set.ensures ∙ c.if-in_set.false, c.if-id.true) at (kind-is c.args.id c.ranges.id.fits)

pub returns : goal.returns
unfolding group_settings setting_kind setting_id group_id row_of table
returns c = rw (sym c.in_set.ensures ∙ c.if-in_set.false, c.if-id.false) at (kind-is c.args.id c.ranges.id.fits)
