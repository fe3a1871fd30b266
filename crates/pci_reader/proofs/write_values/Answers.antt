use native.Mathlib.Omega.{arith}
use mathlib.Core.Path.{◌≡◌, ap, ap₂, ◌∙◌}
use mathlib.Core.List.{List}
use native.Mathlib.Nat.{zero-add}
use Prim.Native.Nat.{ℕ}
use lib.ListN.{length, set, length-set}
use lib.Seq.{sets}
use Rattle.rules.specs.Form.{read}
use Rattle.rules.specs.Pci.{values}
use Rattle.theory.proofs.Image.{copied_on, read_all}
use Rattle.pairs.proofs.Pairs.{pair_count}
use Rattle.pci_reader.proofs.write_values.Goals as goal

pub loop-i-preserved : goal.loop-i-preserved
loop-i-preserved c = let a = c.args in (
  omega (arith, c.loop-i-test.true, pair_count c.args.pairs.now),
  ap₂ (λ (x : List ℕ) (w : ℕ). set x c.loop-i.i w) c.loop-i.invariant.1 c.value_at.ensures
      ∙ rw zero-add at (copied_on a.list.now 0 (values a.pairs.now) 0 c.loop-i.i),
  simp length-set c.loop-i.invariant.2,
)

pub returns : goal.returns
returns c = let a = c.args in
    let e : c.loop-i.i ≡ length (values a.pairs.now) = omega (arith, c.loop-i.invariant.0, c.loop-i-test.false, pair_count c.args.pairs.now) in
    c.loop-i.invariant.1 ∙ ap (λ (m : ℕ). sets a.list.now 0 (read (values a.pairs.now) 0 m)) e ∙ ap (sets a.list.now 0) (read_all (values a.pairs.now))
