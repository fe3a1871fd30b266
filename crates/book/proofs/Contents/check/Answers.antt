use borrow.Author.Rules.{part_to_end}
use Rattle.book.proofs.Entries.{told-misplaced}
use Rattle.book.proofs.Contents.check.Goals as goal

pub returns-then-not-fits : goal.returns-then-not-fits
returns-then-not-fits c = let l = c.loop-k in
    told-misplaced c.args.self.entries.now l.k c.loop-k-test.true c.entry_of-e.ensures.value l.at c.args.end c.wide-number.ensures c.if-number-least.false l.invariant.numbers l.invariant.bodies c.if-not-fits.true (rw part_to_end at c.misplaced.ensures)
