use Rattle.text.proofs.Parts.{wrote_then}
use Rattle.show.specs.Show.{accepted_text}
use Rattle.show.proofs.put_accepted.Goals as goal

pub returns : goal.returns
unfolding accepted_text
returns c = wrote_then c.put_counts.ensures (wrote_then c.put_sets.ensures (wrote_then c.put_draws.ensures c.put_format.ensures))
