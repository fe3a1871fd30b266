use Rattle.std.proofs.Common.{◌∙◌}
use Rattle.std.proofs.lemmas.Result.{err_from_is_err_and}
use Rattle.book.proofs.Calls.{no-count, cut-told, fault-told, answer-told}
use Rattle.book.proofs.find.Goals as goal

pub returns-in_default : goal.returns-in_default
returns-in_default c = no-count c.args.book.now c.args.number c.in_default.len_below

pub returns-in_err-contents : goal.returns-in_err-contents
returns-in_err-contents c =
    let p = err_from_is_err_and c.from_residual.result c.from_residual.ensures.1 in
    let new = c.in_err-contents.ensures in
    rw (p.1, p.2, new.1) (cut-told c.args.book.now c.args.number _ c.in-len1-up.len_at_least c.wide.ensures new.0)

pub returns-in_err-check : goal.returns-in_err-check
returns-in_err-check c =
    let p = err_from_is_err_and c.from_residual-in_err-check.result c.from_residual-in_err-check.ensures.1 in
    let new = c.in_ok-contents.ensures in
    rw (p.1, p.2) (fault-told c.args.book.now c.args.number _ c.in-len1-up.len_at_least c.wide.ensures new.0 new.2 (rw new.1 at c.in_err-check.ensures))

pub returns : goal.returns
returns c =
    let new = c.in_ok-contents.ensures in
    c.find.ensures ∙ answer-told c.args.book.now c.args.number _ c.in-len1-up.len_at_least c.wide.ensures new.0 new.2 (rw new.1 at c.in_ok-check.ensures)
