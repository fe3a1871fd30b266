use mathlib.Core.Path.{◌∙◌}
use Rattle.book.proofs.Writing.{scene-put}
use Rattle.book.proofs.write_scene.Goals as goal

pub returns-clause-book_value : goal.returns-clause-book_value
returns-clause-book_value c = let a = c.args in c.copy.ensures ∙ scene-put a.words.now a.book.now a.i a.at a.e
