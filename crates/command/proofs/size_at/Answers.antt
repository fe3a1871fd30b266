use native.Mathlib.Omega.{arith}
use mathlib.Core.Path.{ap, sym, ◌∙◌}
use Rattle.rules.specs.Word.{id_of}
use Rattle.command.proofs.Sizes.{size_at_lem}
use Rattle.command.proofs.size_at.Goals as goal

pub returns : goal.returns
returns g c =
    c.size.ensures
    ∙ rw (c.header_of.ensures, c.word-w.ensures, c.word_or_zero.ensures, c.word_or_zero-2.ensures, c.word_or_zero-3.ensures)
    (sym (size_at_lem (g.S.Source.words c.args.buffer.now) c.args.at _ (c.id_of.ensures ∙ ap id_of c.word-w.ensures) (omega (arith, c.id_of.type_inv))))
