-- Each case holds: document 01's P1 to P12 and N1 to N4, lists measured, masks, the guide's PCI writes, sessions, lists in the
-- other byte orders, and scene books.
use mathlib.Core.Path.{◌≡◌, refl}
use mathlib.Core.Bool.{true}
use Rattle.rules.specs.Word.{lowest, undefined}
use Rattle.rules.specs.Table.{table, row_of, settings, is_base}
use Rattle.rules.specs.Command.{payload, command_size}
use Rattle.rules.specs.Place.{start_from, word_mask}
use Rattle.rules.specs.Values.{faults}
use Rattle.rules.specs.Decode.{decode_row, decode}
use Rattle.rules.specs.Walk.{order_faults, order_after, step, walk, parse}
use Rattle.rules.specs.Form.{form_from}
use Rattle.rules.specs.Answer.{reading, normalising, measuring}
use Rattle.rules.specs.Pci.{address, misplaced, parse_pairs, to_pci, from_pci}
use Rattle.rules.specs.Session.{pair_call, turn, read_from, reading_scenes}
use Rattle.rules.specs.Swap.{swap, in_mode}
use Rattle.rules.specs.Book.{book_fault, finding_scene, table_fault, writing_book}
use Rattle.rules.specs.Cases.{every, cases}

pub cases_hold : every cases ≡ true
unfolding every cases book_fault finding_scene table_fault writing_book in_mode swap reading normalising measuring to_pci from_pci pair_call turn read_from reading_scenes address misplaced parse_pairs command_size start_from word_mask parse walk step decode decode_row faults lowest undefined payload order_faults order_after row_of table settings is_base form_from
cases_hold = refl
