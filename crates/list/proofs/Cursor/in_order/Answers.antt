use native.Mathlib.Nat.{add-zero}
use mathlib.Core.Path.{ap, sym, ◌∙◌}
use Rattle.rules.specs.Returned.{numbered}
use Rattle.rules.specs.Walk.{order_faults}
use Rattle.list.specs.View.{ordered}
use Rattle.list.proofs.Steps.{kept_begin}
use Rattle.list.proofs.Cursor.in_order.Goals as goal

pub returns-then-self-k : goal.returns-then-self-k
unfolding order_faults
returns-then-self-k c = sym (ap (λ d. ordered c.args.self (numbered d)) c.in-Ok.is ∙ rw (kept_begin c.in-Ok.k.begin, c.if-self-k.true, add-zero))

pub returns : goal.returns
unfolding order_faults
returns c = rw c.in-Ok.is (sym (rw (kept_begin c.in-Ok.k.begin, c.if-self-k.false)))
