use native.Mathlib.Omega.{arith}
use mathlib.Core.Path.{◌∙◌}
use Rattle.settings.proofs.Emitting.{to_emit_end, to_emit_now, to_emit_less, to_emit_on}
use Rattle.settings.proofs.Memory.emit_all.Goals as goal

pub overflow_add-lowest : goal.overflow_add-lowest
overflow_add-lowest g c = let k = (to_emit_now c.loop-left.invariant.emits c.loop-left-test.true).number in
    omega arith

pub emit_one-m-requires : goal.emit_one-m-requires
emit_one-m-requires g c = rw c.loop-left.invariant.latest (to_emit_now c.loop-left.invariant.emits c.loop-left-test.true)

pub loop-left-smaller : goal.loop-left-smaller
loop-left-smaller g c = to_emit_less c.loop-left.invariant.emits c.loop-left-test.true

pub loop-left-preserved : goal.loop-left-preserved
loop-left-preserved g c = record {
  emits = to_emit_on c.loop-left.invariant.emits c.loop-left-test.true _ (rw c.loop-left.invariant.latest at c.emit_one-m.ensures.value);
  latest = c.emit_one-m.ensures.kept ∙ c.loop-left.invariant.latest;
}

pub returns-clause-value : goal.returns-clause-value
returns-clause-value g c = to_emit_end c.loop-left.invariant.emits c.loop-left-test.false
