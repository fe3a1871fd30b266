use native.Mathlib.Omega.{arith}
use mathlib.Core.Path.{ap, ◌∙◌}
use lib.ListN.{length}
use lib.Seq.{length-sets}
use Rattle.form.proofs.Forming.{formed_start, formed_can_take, formed_on, formed_can_end, formed_end}
use Rattle.form.proofs.form.Goals as goal

pub returns : goal.returns
returns c =
    let p = formed_end _ _ _ c.requires _ c.loop-draft.invariant c.loop-draft-test.false _ c.emit_settings.ensures.value in
    record { value = p.0; out_value = p.1 }

pub loop-draft-smaller : goal.loop-draft-smaller
loop-draft-smaller c = let o = formed_on _ _ _ c.requires _ c.loop-draft.invariant c.loop-draft-test.true _ c.take_command.ensures in
    omega (arith, o.0, c.loop-draft-test.true)

pub shape_of-out : goal.shape_of-out
shape_of-out c = ap length (returns c).out_value ∙ simp length-sets

pub loop-draft-init : goal.loop-draft-init
loop-draft-init c = rw (c.new-draft.ensures, c.new-memory.ensures.0, c.new-memory.ensures.1) (formed_start _ _ _ c.requires)

pub take_command-requires : goal.take_command-requires
take_command-requires c = formed_can_take _ _ _ c.requires _ c.loop-draft.invariant c.loop-draft-test.true

pub loop-draft-preserved : goal.loop-draft-preserved
loop-draft-preserved c = (formed_on _ _ _ c.requires _ c.loop-draft.invariant c.loop-draft-test.true _ c.take_command.ensures).1

pub emit_settings-requires : goal.emit_settings-requires
emit_settings-requires c = formed_can_end _ _ _ c.requires _ c.loop-draft.invariant
