use native.Mathlib.Omega.{arith}
use borrow.Author.Rules.{rules}
use Rattle.text.proofs.Parts.{written}
use Rattle.rules.specs.Returned.{number_of}
use Rattle.lines.proofs.Lengths.{refused-length}
use Rattle.report.proofs.put_refused.Goals as goal

pub returns : goal.returns
returns c =
    let new = c.new-writer.ensures in
    let few = refused-length (number_of c.args.reason) c.args.word in
    written (rw c.number.ensures at c.put_refused.ensures) new.position (omega (arith, few)) new.same_text (search rules) c.position.ensures
