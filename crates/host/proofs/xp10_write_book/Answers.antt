use mathlib.Core.Path.{ap}
use Rattle.rules.specs.Verdict.{BookAnswer}
use Rattle.host.proofs.Call.{book_fits}
use Rattle.host.proofs.xp10_write_book.Goals as goal

pub write_book_answer-requires : goal.write_book_answer-requires
write_book_answer-requires c = rw (ap (λ (a : BookAnswer). a.words) c.into.ensures) (book_fits _ _ _ _ _ c.write_book.ensures)
