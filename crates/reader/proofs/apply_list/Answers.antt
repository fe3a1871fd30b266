use native.Mathlib.Omega.{arith}
use mathlib.Core.Path.{ap, ◌∙◌}
use lib.ListN.{length}
use lib.Seq.{length-sets}
use Rattle.rules.specs.Records.{records, record_words}
use Rattle.theory.proofs.Parse.{parse-accepted}
use Rattle.theory.proofs.Differing.{length-final}
use Rattle.reader.proofs.Applying.{applying_start, applying_command, applying_on, applying_end}
use Rattle.reader.proofs.apply_list.Goals as goal

pub loop-p-init : goal.loop-p-init
loop-p-init c = ((parse-accepted _ _ _ c.requires.0).few, applying_start _ _ _ _ c.requires.0)

pub apply_command-p-requires : goal.apply_command-p-requires
apply_command-p-requires c = applying_command _ _ _ _ c.loop-p.invariant.0 _ _ _ c.loop-p.invariant.1 c.loop-p-test.true (parse-accepted _ _ _ c.requires.0).whole c.requires.1

pub loop-p-smaller : goal.loop-p-smaller
loop-p-smaller c = let o = applying_on _ _ _ _ c.loop-p.invariant.0 _ _ _ c.loop-p.invariant.1 c.loop-p-test.true _ _ _ c.apply_command-p.ensures in
    omega (arith, o.0, c.loop-p-test.true)

pub loop-p-preserved : goal.loop-p-preserved
loop-p-preserved c = (c.loop-p.invariant.0, (applying_on _ _ _ _ c.loop-p.invariant.0 _ _ _ c.loop-p.invariant.1 c.loop-p-test.true _ _ _ c.apply_command-p.ensures).1)

pub shape_of-image : goal.shape_of-image
shape_of-image c = ap length c.loop-p.invariant.1.image-is ∙ length-final _ c.loop-p.invariant.1.position.done

pub shape_of-buffer : goal.shape_of-buffer
shape_of-buffer c = ap length c.loop-p.invariant.1.recs_is ∙ length-sets _ 0 (record_words (records 0 c.loop-p.invariant.1.position.done))

pub returns : goal.returns
returns c =
    let e = applying_end _ _ _ _ c.loop-p.invariant.0 _ _ _ c.loop-p.invariant.1 c.loop-p-test.false in
    record { image_value = e.0; buffer_value = e.1 }
