use Prim.Native.Nat.{ℕ, ◌+◌}
use native.Mathlib.Omega.{arith}
use mathlib.Core.Path.{ap, sym, ◌∙◌}
use Rattle.table.specs.Tables.{more}
use Rattle.command.proofs.Sizes.{payload-few, group-size, single-size}
use Rattle.command.proofs.size.Goals as goal

pub overflow_add-result : goal.overflow_add-result
overflow_add-result c = record { fits = omega (arith, payload-few _ _ _ _ c.payload.ensures) }

pub returns-then-is_group : goal.returns-then-is_group
returns-then-is_group c = ap (λ (n : ℕ). 4 + n) c.payload.ensures ∙ sym (group-size c.args.id c.ranges.id.fits c.args.g.header (more c.args.g) (sym c.is_group.ensures ∙ c.if-is_group.true))

pub returns : goal.returns
returns c = sym (single-size c.args.id c.ranges.id.fits c.args.g.header (more c.args.g) (sym c.is_group.ensures ∙ c.if-is_group.false))
