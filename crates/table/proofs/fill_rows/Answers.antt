use Rattle.table.specs.Tables.{row_table}
use Rattle.table.proofs.fill_rows.Goals as goal

-- the one test over the table of rows, computed
pub returns : goal.returns
unfolding row_table
returns c = rw c.requires
