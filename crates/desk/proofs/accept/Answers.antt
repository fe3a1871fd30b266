use native.Mathlib.Omega.{arith}
use borrow.Author.Rules.{rules}
use Rattle.std.specs.Prelude.{Ok}
use Rattle.rules.specs.Returned.{answer_of}
use Rattle.text.proofs.Parts.{written}
use Rattle.verdict.proofs.Lengths.{verdict-length}
use Rattle.desk.proofs.Making.{written_bound, makes_accepted}
use Rattle.desk.proofs.accept.Goals as goal

pub returns : goal.returns
returns c =
    let a = c.args in
    let new = c.new-writer.ensures in
    let put = rw c.into.ensures at c.put_verdict-verdict.ensures in
    makes_accepted a.list.now a.pairs.now 1024 a.a a.words.now c.requires put
    (written c.put_format.ensures new.position
    (omega (arith, put.next-is, verdict-length (answer_of (Ok a.a)) a.list.now a.pairs.now 1024, written_bound a.words.now)) new.same_text
    (search rules) c.position.ensures)
    c.store.ensures
