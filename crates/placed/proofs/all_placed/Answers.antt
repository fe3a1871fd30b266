use Prim.Native.Nat.{◌+◌}
use native.Mathlib.Omega.{arith}
use mathlib.Core.Path.{sym}
use Rattle.pairs.specs.View.{addresses}
use Rattle.pairs.proofs.Pairs.{address_of}
use Rattle.placed.proofs.Placed.{placed_one}
use Rattle.placed.proofs.all_placed.Goals as goal

pub loop-i-preserved : goal.loop-i-preserved
loop-i-preserved c = let a = c.args in
    let first = address_of a.pairs.now (a.at + c.loop-i.i) (omega (arith, c.loop-i-test.true, c.requires)) in
    rw (c.loop-i.invariant, first, c.address.ensures) (sym (placed_one a.id (addresses a.pairs.now) a.at c.loop-i.i))
