use Prim.Native.Nat.{ℕ}
use mathlib.Core.Path.{ap, ◌∙◌}
use mathlib.Core.Bool.{not}
use lib.Dec.{eqb}
use Rattle.table.proofs.Tables.{setting-is}
use Rattle.table.proofs.Settings.contains.Goals as goal

pub returns : goal.returns
returns c = ap (λ (k : ℕ). not (eqb k 0)) c.kind.ensures ∙ setting-is c.args.id
