use native.Mathlib.Omega.{arith}
use mathlib.Core.Path.{ap, sym, ◌∙◌}
use Rattle.std.specs.Prelude.{Ok, Err}
use Rattle.faults.proofs.FirstFault.{load_found}
use Rattle.command.proofs.load_command.Goals as goal

pub refused_values-requires : goal.refused_values-requires
refused_values-requires g c = (omega (arith, c.requires, c.well_formed, g.met.S.Source.fits c.args.buffer.now), sym (load_found c.args.g c.any.ensures c.load_faults.ensures) ∙ c.if-any.true)

pub returns-then-any : goal.returns-then-any
returns-then-any g c = rw (sym (load_found c.args.g c.any.ensures c.load_faults.ensures) ∙ c.if-any.true) (ap Err c.refused_values.ensures)

pub returns-then-not-payload_in_place : goal.returns-then-not-payload_in_place
returns-then-not-payload_in_place g c = rw (sym (load_found c.args.g c.any.ensures c.load_faults.ensures) ∙ c.if-any.false, ← c.payload-more.ensures, sym c.payload_in_place.ensures ∙ c.if-not-payload_in_place.true)

pub returns : goal.returns
returns g c = rw (sym (load_found c.args.g c.any.ensures c.load_faults.ensures) ∙ c.if-any.false, ← c.payload-more.ensures, sym c.payload_in_place.ensures ∙ c.if-not-payload_in_place.false) (ap Ok c.group_command.ensures)
