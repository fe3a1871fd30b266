-- Each of the examples holds.
use mathlib.Core.Path.{◌≡◌, refl}
use mathlib.Core.Bool.{true}
use Rattle.rules.specs.Word.{undefined}
use Rattle.rules.specs.Table.{table, row_of, is_base}
use Rattle.rules.specs.Command.{payload}
use Rattle.rules.specs.Values.{faults}
use Rattle.rules.specs.Decode.{decode_row, decode}
use Rattle.rules.specs.Walk.{order_faults, order_after, step, walk, parse}
use Rattle.rules.specs.Answer.{reading}
use Rattle.endian.specs.Words.{words_of}
use Rattle.text.specs.Text.{hex, decimal}
use Rattle.format.specs.Format.{formatted}
use Rattle.report.specs.Listing.{read_bytes, listed}
use Rattle.report.specs.Examples.{every, examples}

pub examples_hold : every examples ≡ true
unfolding every examples read_bytes words_of listed formatted hex decimal reading parse walk step decode decode_row faults undefined payload order_faults order_after row_of table is_base
examples_hold = refl
