use native.Mathlib.Omega.{arith}
use mathlib.Core.Path.{sym, subst, ◌∙◌}
use Rattle.std.specs.Prelude.{Err}
use Rattle.command.proofs.Decoding.{at_unknown, at_known}
use Rattle.list.specs.View.{Stepped}
use Rattle.list.proofs.Stepping.{met-inside, stepped}
use Rattle.list.proofs.Cursor.step.Goals as goal

pub returns-then-row-ge-UNKNOWN : goal.returns-then-row-ge-UNKNOWN
returns-then-row-ge-UNKNOWN g c =
    stepped g.S.Source.words g.S.Source.placed c.args.buffer.now c.args.self (Err _) (λ e. at_unknown (g.S.Source.words c.args.buffer.now) c.args.self.at c.requires.1 c.word.ensures c.id_of-id.ensures c.row-row.ensures
    (omega (arith, c.word.ensures, c.word.type_inv)) c.if-row-ge-UNKNOWN.true c.unknown.ensures.number c.unknown.ensures.bit)

pub is_known_group-requires : goal.is_known_group-requires
is_known_group-requires g c = (c.row-row.ensures, c.if-row-ge-UNKNOWN.false)

pub decode_group-requires : goal.decode_group-requires
decode_group-requires g c = (at_known (g.S.Source.words c.args.buffer.now) c.args.self.at c.requires.1 c.word.ensures c.id_of-id.ensures c.row-row.ensures (omega (arith, c.word.ensures, c.word.type_inv)) c.if-row-ge-UNKNOWN.false, sym c.is_known_group.ensures ∙ c.if-is_known_group.true)

pub take-requires : goal.take-requires
take-requires g c = (c.requires.0, met-inside g.S.Source.words g.S.Source.placed c.args.buffer.now c.args.self _ c.decode_group.ensures (omega (arith, c.well_formed, g.met.S.Source.fits c.args.buffer.now)) c.requires.1)

pub returns-then-is_known_group : goal.returns-then-is_known_group
returns-then-is_known_group g c = subst (Stepped g.S.Source.words g.S.Source.placed c.args.buffer.now c.args.self) (sym c.take.ensures) (stepped g.S.Source.words g.S.Source.placed c.args.buffer.now c.args.self _ c.decode_group.ensures)

pub decode_single-requires : goal.decode_single-requires
decode_single-requires g c = (at_known (g.S.Source.words c.args.buffer.now) c.args.self.at c.requires.1 c.word.ensures c.id_of-id.ensures c.row-row.ensures (omega (arith, c.word.ensures, c.word.type_inv)) c.if-row-ge-UNKNOWN.false, sym c.is_known_group.ensures ∙ c.if-is_known_group.false)

pub take-requires-2 : goal.take-requires-2
take-requires-2 g c = (c.requires.0, met-inside g.S.Source.words g.S.Source.placed c.args.buffer.now c.args.self _ c.decode_single.ensures (omega (arith, c.well_formed, g.met.S.Source.fits c.args.buffer.now)) c.requires.1)

pub returns : goal.returns
returns g c = subst (Stepped g.S.Source.words g.S.Source.placed c.args.buffer.now c.args.self) (sym c.take-2.ensures) (stepped g.S.Source.words g.S.Source.placed c.args.buffer.now c.args.self _ c.decode_single.ensures)
