use Prim.Native.Nat.{◌+◌, ◌-◌}
use native.Mathlib.Omega.{arith}
use mathlib.Core.Path.{◌≡◌, refl}
use Rattle.text.proofs.Parts.{wrote_then, wrote_none}
use Rattle.show.specs.Show.{sets_text}
use Rattle.show.specs.Changes.{lines_from}
use Rattle.show.proofs.Changes.{lines_more, lines-all}
use Rattle.show.proofs.put_sets.Goals as goal

pub loop-id-preserved : goal.loop-id-preserved
loop-id-preserved c w a = c.loop-id.invariant w (rw (lines_more c.args.before.now c.args.after.now c.loop-id.id (omega arith)) (wrote_then c.put_id.ensures a))

pub returns-2 : goal.returns-2
unfolding sets_text lines_from
returns-2 c =
    let b = c.args.before.now in
    let a = c.args.after.now in
    let last : c.loop-id.id ≡ 255 = omega arith in
    let none : 256 - (c.loop-id.id + 1) ≡ 0 = omega arith in
    rw (← lines-all b a)
    (wrote_then c.put_all.ensures
    (c.loop-id.invariant _ (rw (lines_more b a c.loop-id.id (omega arith)) (wrote_then c.put_id.ensures (rw none (wrote_none refl))))))
