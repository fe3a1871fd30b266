use Rattle.settings.proofs.Emitting.{emit_both}
use Rattle.settings.proofs.Memory.emit_changed.Goals as goal

pub returns-clause-value : goal.returns-clause-value
returns-clause-value c = emit_both c.args.changed _ _ _ _ _ _ c.emit_all-m.ensures.value (rw c.emit_all-m.ensures.kept at c.emit_all.ensures.value)
