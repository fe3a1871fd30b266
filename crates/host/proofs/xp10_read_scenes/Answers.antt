use mathlib.Core.Path.{ap}
use Rattle.rules.specs.Verdict.{SessionAnswer}
use Rattle.host.proofs.Call.{session_fits}
use Rattle.host.proofs.xp10_read_scenes.Goals as goal

pub write_session-requires : goal.write_session-requires
write_session-requires c = let f = session_fits _ _ _ _ _ _ _ c.read_scenes.ensures in (rw (ap (λ (s : SessionAnswer). s.answer) c.into.ensures) f.0, rw (ap (λ (s : SessionAnswer). s.lists) c.into.ensures) f.1)
