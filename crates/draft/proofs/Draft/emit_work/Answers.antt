use native.Mathlib.Omega.{arith}
use Rattle.draft.specs.Drafts.{made}
use Rattle.draft.proofs.Taking.{worked}
use Rattle.draft.proofs.Draft.emit_work.Goals as goal

pub returns : goal.returns
returns c =
    rw c.emit_settings-n.ensures.kept
    (worked _ _ (made c.args.self.now c.args.memory.now c.args.out.now) _ c.size_at.ensures (omega (arith, c.size_at.ensures)) _ _ c.emit_settings-n.ensures.value c.put_words.ensures)
