use mathlib.Core.Path.{sym, ◌∙◌}
use Rattle.settings.proofs.Emitting.{emit-kept, emit-put, latest-kept}
use Rattle.settings.proofs.Memory.emit_one.Goals as goal

pub returns-then-is_built-clause-value : goal.returns-then-is_built-clause-value
returns-then-is_built-clause-value g c = emit-kept _ _ _ c.args.self.now _ _ _ c.requires (sym c.is_built.ensures ∙ c.if-is_built.true)

pub returns-clause-value : goal.returns-clause-value
returns-clause-value g c = emit-put _ _ _ c.args.self.now _ _ _ c.requires (sym c.is_built.ensures ∙ c.if-is_built.false) _ c.put_words.ensures

pub returns-clause-kept : goal.returns-clause-kept
returns-clause-kept g c = latest-kept _ _ _ c.args.self.now _ _ _ c.requires
