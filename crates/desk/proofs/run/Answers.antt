use mathlib.Core.Path.{sym}
use lib.Seq.{length-take-le}
use Rattle.desk.proofs.Faults.{made-refused, size_none, words-room, made-is}
use Rattle.desk.proofs.run.Goals as goal

pub returns-in-Err : goal.returns-in-Err
returns-in-Err c = rw (made-refused c.args.task c.args.input.now c.args.image.now _ c.most.ensures.0 c.check_sizes.ensures c.in-Err.is) (c.refuse.ensures _)

pub slice_bounds-words-end : goal.slice_bounds-words-end
slice_bounds-words-end c = let a = c.args in
    words-room a.task a.input.now a.image.now (size_none a.task a.input.now a.image.now _ c.most.ensures.0 c.check_sizes.ensures c.in_default.is) c.load.ensures

pub slice_bounds-perform-end : goal.slice_bounds-perform-end
slice_bounds-perform-end c = let a = c.args in
    sym (length-take-le _ _ (words-room a.task a.input.now a.image.now (size_none a.task a.input.now a.image.now _ c.most.ensures.0 c.check_sizes.ensures c.in_default.is) c.load.ensures))

pub returns : goal.returns
returns c = let a = c.args in
    let e = made-is a.task a.input.now a.image.now (size_none a.task a.input.now a.image.now _ c.most.ensures.0 c.check_sizes.ensures c.in_default.is) c.load.ensures c.load-2.ensures in
    rw e c.perform.ensures
