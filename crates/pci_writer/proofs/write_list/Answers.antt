use native.Mathlib.Omega.{arith}
use Rattle.theory.proofs.Parse.{parse-accepted}
use Rattle.pci_writer.proofs.Writing.{put-start, put-command, put_on, put_end}
use Rattle.pci_writer.proofs.write_list.Goals as goal

pub write_command-at-requires : goal.write_command-at-requires
write_command-at-requires c = put-command _ _ _ _ _ c.loop-at.invariant c.loop-at-test.true (parse-accepted _ _ _ c.requires.0).few c.requires.1

pub loop-at-smaller : goal.loop-at-smaller
loop-at-smaller c = let o = put_on _ _ _ _ _ c.loop-at.invariant c.loop-at-test.true _ _ (c.write_command-at.ensures.value, c.write_command-at.ensures.pairs_value) in
    omega (arith, o.0, c.loop-at-test.true)

pub loop-at-preserved : goal.loop-at-preserved
loop-at-preserved c = (put_on _ _ _ _ _ c.loop-at.invariant c.loop-at-test.true _ _ (c.write_command-at.ensures.value, c.write_command-at.ensures.pairs_value)).1

pub loop-at-init : goal.loop-at-init
loop-at-init c = put-start _ _ _ _ c.requires.0

pub returns : goal.returns
returns c = put_end _ _ _ _ _ c.loop-at.invariant c.loop-at-test.false
