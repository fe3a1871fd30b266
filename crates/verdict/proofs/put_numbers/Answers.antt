use native.Mathlib.Omega.{arith}
use borrow.Author.Rules.{rules}
use Rattle.verdict.specs.Numbers.{answer_with}
use Rattle.text.proofs.Parts.{written}
use Rattle.verdict.proofs.Lengths.{verdict-length}
use Rattle.verdict.proofs.put_numbers.Goals as goal

pub returns : goal.returns
returns c =
    let a = c.args in
    let new = c.new-writer.ensures in
    let few = verdict-length (answer_with a.n) a.list.now a.pairs.now a.bytes in
    written c.put_answer.ensures new.position (omega (arith, few)) new.same_text (search rules) c.position.ensures
