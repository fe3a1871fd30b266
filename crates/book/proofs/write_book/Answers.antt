use Rattle.std.proofs.Common.{refl, sym, ◌∙◌}
use Rattle.std.proofs.lemmas.Result.{err_from_is_err_and}
use Rattle.book.proofs.Calls.{cut-within, of-table, sized, unsized, too-small, put}
use Rattle.book.proofs.write_book.Goals as goal

pub returns-then-not-whole : goal.returns-then-not-whole
returns-then-not-whole c = cut-within c.args.table.now c.args.words.now c.args.book.now c.if-not-whole.true

pub returns-in_err-contents : goal.returns-in_err-contents
returns-in_err-contents c =
    let p = err_from_is_err_and c.from_residual.result c.from_residual.ensures.1 in
    let new = c.in_err-contents.ensures in
    rw (p.1, p.2, new.1) (of-table c.args.table.now c.args.words.now c.args.book.now c.if-not-whole.false new.0 refl refl refl)

pub returns-then-not-rises : goal.returns-then-not-rises
returns-then-not-rises c =
    let new = c.in_ok-contents.ensures in
    of-table c.args.table.now c.args.words.now c.args.book.now c.if-not-whole.false new.0 new.2 (sym c.if-not-rises.true ∙ c.rises.ensures) refl

pub returns-in_err-size : goal.returns-in_err-size
returns-in_err-size c =
    let p = err_from_is_err_and c.from_residual-in_err-size.result c.from_residual-in_err-size.ensures.1 in
    let new = c.in_ok-contents.ensures in
    let u = unsized _ _ c.in_err-size.ensures in
    rw (p.1, p.2, u.0) (of-table c.args.table.now c.args.words.now c.args.book.now c.if-not-whole.false new.0 new.2 (sym c.if-not-rises.false ∙ c.rises.ensures) u.1)

pub returns-then-book-size : goal.returns-then-book-size
returns-then-book-size c =
    let new = c.in_ok-contents.ensures in
    let s = sized _ c.in_ok-size.ensures in
    too-small c.args.words.now c.args.book.now _ s.0 s.1 c.if-book-size.true
    ∙ of-table c.args.table.now c.args.words.now c.args.book.now c.if-not-whole.false new.0 new.2 (sym c.if-not-rises.false ∙ c.rises.ensures) (sym s.0)

pub returns : goal.returns
returns c =
    let new = c.in_ok-contents.ensures in
    let s = sized _ c.in_ok-size.ensures in
    put c.args.words.now c.args.book.now _ s.0 s.1 c.if-book-size.false c.write.ensures
    ∙ of-table c.args.table.now c.args.words.now c.args.book.now c.if-not-whole.false new.0 new.2 (sym c.if-not-rises.false ∙ c.rises.ensures) (sym s.0)
