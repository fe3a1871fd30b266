use Rattle.desk.proofs.Making.{makes_refused}
use Rattle.desk.proofs.refuse.Goals as goal

pub returns : goal.returns
returns c out = let a = c.args in makes_refused a.list.now a.pairs.now a.bytes a.f (rw c.into.ensures at c.put_verdict-size.ensures)
