use mathlib.Core.Path.{ap, sym, ◌∙◌}
use Rattle.std.specs.Prelude.{Ok, Err}
use Rattle.command.proofs.other_command.Goals as goal

pub returns-then-bad_other : goal.returns-then-bad_other
returns-then-bad_other c = rw (sym c.bad_other.ensures ∙ c.if-bad_other.true) (ap Err c.refused_values.ensures)

pub returns : goal.returns
returns c = rw (sym c.bad_other.ensures ∙ c.if-bad_other.false) (ap Ok c.group_command.ensures)
