use mathlib.Core.Path.{ap, sym, ◌∙◌, subst}
use Rattle.rules.specs.Returned.{numbered}
use Rattle.list.specs.View.{InsideAfter}
use Rattle.list.proofs.Steps.{inside-ordered}
use Rattle.list.proofs.Cursor.take.Goals as goal

pub after-requires : goal.after-requires
after-requires c = (c.requires.0, subst (InsideAfter c.args.self) (sym c.in_order.ensures ∙ ap numbered c.in_ok-k.was) (inside-ordered c.args.self (numbered c.args.d) c.requires.1))
