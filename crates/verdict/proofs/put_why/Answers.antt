use Rattle.text.proofs.Parts.{wrote_then}
use Rattle.verdict.proofs.put_why.Goals as goal

pub returns : goal.returns
returns c = wrote_then c.put_all.ensures (wrote_then c.put_refusal.ensures c.put_all-2.ensures)
