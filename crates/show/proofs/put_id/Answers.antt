use native.Mathlib.Omega.{arith}
use mathlib.Core.Path.{sym, ◌∙◌}
use Rattle.show.proofs.Changes.{group-room}
use Rattle.show.proofs.put_id.Goals as goal

pub put_change-requires : goal.put_change-requires
put_change-requires c = omega (arith, group-room _ c.ranges.id.fits (sym c.kind-kind.ensures ∙ c.if-kind-eq-GROUP.true))
