use native.Mathlib.Omega.{arith}
use Rattle.text.proofs.Parts.{wrote_then, wrote_none}
use Rattle.show.proofs.Changes.{change_none, change_some}
use Rattle.show.proofs.put_change.Goals as goal

pub returns-then-eq : goal.returns-then-eq
returns-then-eq c =
    let a = c.args in
    wrote_none (change_none a.id a.size a.before.now a.after.now (omega arith) (omega arith) c.if-eq.ensures)

pub returns : goal.returns
returns c =
    let a = c.args in
    rw (change_some a.id a.size a.before.now a.after.now (omega arith) (omega arith) c.if-eq.ensures)
    (wrote_then (rw c.commands.ensures at c.put_format.ensures)
    (wrote_then c.put_words.ensures (wrote_then c.put_all.ensures (wrote_then c.put_words-2.ensures c.put_all-2.ensures))))
