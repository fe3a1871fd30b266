use native.Mathlib.Omega.{arith}
use borrow.Author.Rules.{rules}
use Rattle.text.proofs.Parts.{written}
use Rattle.theory.proofs.Reading.{reading-words}
use Rattle.report.proofs.Sizes.{reading-few}
use Rattle.report.proofs.Printed.{listed-is}
use Rattle.report.proofs.put_list.Goals as goal

pub returns : goal.returns
returns c =
    let new = c.new-writer.ensures in
    let few = reading-few _ _ _ c.read-answer.ensures in
    listed-is c.read-answer.ensures
    (written c.put_answer.ensures new.position (omega (arith, few)) new.same_text (search rules) c.position.ensures)

pub put_answer-requires : goal.put_answer-requires
put_answer-requires c = reading-words _ _ _ _ c.read-answer.ensures
