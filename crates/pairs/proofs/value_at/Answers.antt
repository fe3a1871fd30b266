use Rattle.pairs.proofs.Pairs.{value_of_chunk}
use Rattle.pairs.proofs.value_at.Goals as goal

pub returns : goal.returns
returns c = value_of_chunk c.args.pairs.now c.args.at c.as_chunks.ensures.front c.requires
