use Rattle.pairs.proofs.Pairs.{address_of_chunk}
use Rattle.pairs.proofs.address_at.Goals as goal

pub returns : goal.returns
returns c = address_of_chunk c.args.pairs.now c.args.at c.as_chunks.ensures.front c.requires
