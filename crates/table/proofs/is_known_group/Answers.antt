use native.Mathlib.Omega.{arith}
use mathlib.Core.Path.{ap, sym, ◌∙◌}
use Rattle.table.proofs.Tables.{known_group_test, known}
use Rattle.table.proofs.is_known_group.Goals as goal

pub returns : goal.returns
returns c = ap (known_group_test c.args.id) c.requires.0 ∙ sym (known c.args.id c.ranges.id.fits (omega (arith, c.requires.0, c.requires.1))).group
