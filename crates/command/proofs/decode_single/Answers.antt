use mathlib.Core.Path.{sym, ap, ◌∙◌}
use Rattle.rules.specs.Word.{header_of}
use Rattle.command.proofs.Decoding.{decoded_single_bad, decoded_single}
use Rattle.command.proofs.Meeting.{single_out, single_passed}
use Rattle.command.proofs.decode_single.Goals as goal

pub returns-then-undefined : goal.returns-then-undefined
returns-then-undefined g c = λ e.
    rw c.lowest_undefined.ensures.0
    (sym (decoded_single_bad _ _ _ _ c.requires.0 c.ranges.id.fits c.requires.1 _ _ _ (c.header_of-header.ensures ∙ ap header_of c.word.ensures) c.mask-mask.ensures c.undefined.ensures c.if-undefined.true))

pub returns-then-not-word_in_place : goal.returns-then-not-word_in_place
returns-then-not-word_in_place g c = λ e.
    absurd (single_out g.S.Source.words g.S.Source.placed c.args.buffer.now c.args.at _ _ c.requires.0 c.ranges.id.fits c.requires.1 (sym c.word_in_place.ensures ∙ c.if-not-word_in_place.true) e)

pub returns : goal.returns
returns g c = rw c.single_command.ensures (
  sym (decoded_single _ _ _ _ c.requires.0 c.ranges.id.fits c.requires.1 _ _ _ (c.header_of-header.ensures ∙ ap header_of c.word.ensures) c.mask-mask.ensures c.undefined.ensures c.if-undefined.false),
  single_passed g.S.Source.words g.S.Source.placed c.args.buffer.now c.args.at _ _ c.requires.0 c.ranges.id.fits c.requires.1 (sym c.word_in_place.ensures ∙ c.if-not-word_in_place.false),
)
