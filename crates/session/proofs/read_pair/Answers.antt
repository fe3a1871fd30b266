use Rattle.session.proofs.Pairs.{call-outside, call-inside}
use Rattle.session.proofs.read_pair.Goals as goal

pub returns-then-lists-words : goal.returns-then-lists-words
returns-then-lists-words c = let a = c.args in
    call-outside a.words.now a.image.now a.records.now a.lists _ _ _ _ c.wide-first.ensures c.wide.ensures c.if-lists-words.true

pub returns : goal.returns
returns c = let a = c.args in
    call-inside a.words.now a.image.now a.records.now a.lists _ _ _ _ c.wide-first.ensures c.wide.ensures _ c.read.ensures c.if-lists-words.false
