use Rattle.std.proofs.Common.{ℕ, length-set, arith}
use Rattle.book.proofs.Writing.{can_put, whole}
use Rattle.book.proofs.Contents.write.Goals as goal

pub write_scene-at-requires : goal.write_scene-at-requires
write_scene-at-requires c = let l = c.loop-k in
    can_put c.args.self.entries.now c.args.words.now l.k l.at l.book c.loop-k-test.true c.entry_of.ensures.value c.args.self.few
    c.requires.inside l.invariant.inside l.invariant.sum (omega (arith, length-set {A = ℕ}, l.auto.book, c.requires.fits))

pub returns : goal.returns
returns c = let l = c.loop-k in whole c.args.self.entries.now c.args.words.now l.k l.book c.args.book.now l.at c.loop-k-test.false c.requires.inside l.invariant.same
