use mathlib.Core.Path.{ap, sym, ◌∙◌}
use Rattle.std.specs.Prelude.{Ok, Err}
use Rattle.faults.proofs.FirstFault.{primitive_found}
use Rattle.command.proofs.primitive_command.Goals as goal

pub returns-then-any : goal.returns-then-any
returns-then-any c = rw (sym (primitive_found c.args.g c.any.ensures c.primitive_faults.ensures) ∙ c.if-any.true) (ap Err c.refused_values.ensures)

pub returns : goal.returns
returns c = rw (sym (primitive_found c.args.g c.any.ensures c.primitive_faults.ensures) ∙ c.if-any.false) (ap Ok c.group_command.ensures)

pub refused_values-requires : goal.refused_values-requires
refused_values-requires c = (c.requires, sym (primitive_found c.args.g c.any.ensures c.primitive_faults.ensures) ∙ c.if-any.true)
