use native.Mathlib.Nat.{div-one}
use borrow.Author.Tests.{ne_eqb}
use Rattle.rules.specs.Command.{payload}
use Rattle.command.proofs.payload.Goals as goal

pub returns-then-id-eq64 : goal.returns-then-id-eq64
unfolding payload
returns-then-id-eq64 c = rw (c.if-id-eq64.true, div-one)

pub returns : goal.returns
unfolding payload
returns c = rw (ne_eqb _ _ c.if-id-eq64.false)
