use native.Mathlib.Omega.{arith}
use mathlib.Core.Path.{ap, sym, ◌∙◌}
use Rattle.rules.specs.Returned.{numbered_refusal}
use Rattle.table.specs.Tables.{group}
use Rattle.values.specs.First.{refusal_or_none}
use Rattle.faults.proofs.FirstFault.{value_near}
use Rattle.command.proofs.refused_values.Goals as goal

pub behind-requires : goal.behind-requires
behind-requires c = let a = c.args in
    omega (arith, value_near a.id (group a.header a.second a.third a.fourth) (numbered_refusal c.unwrap.result) (ap refusal_or_none (sym c.unwrap.ensures) ∙ c.value_fault.ensures), c.requires.0)
