use Rattle.text.proofs.Parts.{wrote_then}
use Rattle.show.specs.Show.{draws_text}
use Rattle.show.proofs.put_draws.Goals as goal

pub returns : goal.returns
unfolding draws_text
returns c = wrote_then c.put_all.ensures (rw c.commands.ensures at c.put_records.ensures)
