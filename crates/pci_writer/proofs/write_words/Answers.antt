use Rattle.pci_writer.proofs.Writing.{pair_on}
use Rattle.pci_writer.proofs.write_words.Goals as goal

pub loop-i-preserved : goal.loop-i-preserved
loop-i-preserved c = let l = c.loop-i in
    rw (c.address.ensures, c.fetch.ensures, l.invariant) (pair_on c.args.pairs.now c.args.list.now c.args.id c.args.at l.i)
