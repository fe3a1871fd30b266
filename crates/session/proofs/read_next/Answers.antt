use Rattle.session.proofs.Pairs.{few}
use Rattle.session.proofs.read_next.Goals as goal

pub add-requires : goal.add-requires
add-requires c = (c.requires.0, few c.args.words.now c.args.image.now _ _ _ _ _ c.read_pair-call.ensures)
