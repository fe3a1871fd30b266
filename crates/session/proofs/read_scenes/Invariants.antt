use Rattle.rules.specs.Session.{in_session}
use Rattle.rules.specs.Returned.{session_answer_of}
use Rattle.session.proofs.Standing.{Standing}
use Rattle.session.proofs.read_scenes.Given as goal

abbrev pub invariant-loop-pair : goal.invariant-loop-pair
invariant-loop-pair l = Standing l.words l.table l.initial.image l.initial.records l.pair-index (in_session (session_answer_of l.s) l.image l.records)
