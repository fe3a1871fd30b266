use native.Mathlib.Omega.{arith}
use mathlib.Core.Path.{◌≡◌, sym}
use mathlib.Core.List.{List}
use Prim.Native.Nat.{ℕ, ◌/◌, ◌≤◌}
use lib.ListN.{length, take, replicate, length-replicate}
use lib.Seq.{sets, length-take-le}
use Rattle.rules.specs.Pci.{values}
use Rattle.pairs.proofs.Pairs.{pair_count}
use Rattle.desk.specs.Desk.{perform}
use Rattle.desk.proofs.Written.{fits_list, front}
use Rattle.desk.proofs.from_pci.Goals as goal

-- the list that pairs carry, as it stands in front
carried : (ps : List ℕ) → length ps ≤ 8193 → take (length ps / 2) (sets (replicate {A = ℕ} 4096 0) 0 (values ps)) ≡ values ps
carried ps h = front (values ps) (replicate {A = ℕ} 4096 0) (length ps / 2) (pair_count ps) (omega (arith, h, length-replicate {A = ℕ} 4096 0))

pub returns-in-Ok : goal.returns-in-Ok
unfolding perform
returns-in-Ok c = rw (← c.in-Ok.ensures) (rw (c.write_values.ensures, carried c.args.pairs.now c.requires) at c.accept.ensures)

pub returns-in-Err : goal.returns-in-Err
unfolding perform
returns-in-Err c = rw (← c.in-Err.ensures) (rw (c.write_values.ensures, carried c.args.pairs.now c.requires) at (c.refuse.ensures c.args.out.now))

pub write_values-requires : goal.write_values-requires
write_values-requires c = omega (arith, c.requires, pair_count c.args.pairs.now)

pub slice_bounds-list-end : goal.slice_bounds-list-end
slice_bounds-list-end c = (fits_list _ _ _ c.in-Ok.ensures).inside

pub slice_bounds-accept-end : goal.slice_bounds-accept-end
slice_bounds-accept-end c = sym (length-take-le _ _ (fits_list _ _ _ c.in-Ok.ensures).inside)
