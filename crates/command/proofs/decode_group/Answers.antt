use Rattle.std.proofs.Common.{rules}
use Prim.Native.Nat.{ℕ, ◌+◌, ◌≤◌}
use native.Mathlib.Omega.{arith}
use mathlib.Core.Path.{refl, ap, sym, ◌∙◌, subst}
use lib.ListN.{length}
use Rattle.rules.specs.Command.{payload}
use Rattle.table.specs.Tables.{more}
use Rattle.std.specs.Prelude.{Ok, Err}
use Rattle.rules.specs.Returned.{numbered_refusal}
use Rattle.values.specs.First.{found, refusal_or_none}
use Rattle.faults.proofs.FirstFault.{undefined_near, undefined-found, some-found}
use Rattle.command.specs.View.{group_of, if_legal, Met, placed_group}
use Rattle.command.proofs.Sizes.{no_payload}
use Rattle.command.proofs.Decoding.{group_cut, group-undefined}
use Rattle.command.proofs.Meeting.{group_out, met-group, met_fixed}
use Rattle.command.proofs.decode_group.Goals as goal

pub overflow_add-at : goal.overflow_add-at
overflow_add-at g c = omega (arith, c.requires.0.inside, c.well_formed, g.met.S.Source.fits c.args.buffer.now)

pub returns-then-len-at : goal.returns-then-len-at
returns-then-len-at g c = λ e. sym (group_cut _ _ _ _ c.requires.0 c.ranges.id.fits c.requires.1 (omega (arith, c.if-len-at.true, c.len.ensures)))

pub unwrap-requires : goal.unwrap-requires
unwrap-requires g c = let is = some-found c.undefined_fault-fault.result ∙ ap found c.undefined_fault-fault.ensures ∙ undefined-found _ _ (sym c.undefined_bits.ensures ∙ c.if-undefined_bits.true) in search rules

pub behind-requires : goal.behind-requires
behind-requires g c = omega (arith, undefined_near _ c.group_at-g.result (numbered_refusal c.unwrap.result) (ap refusal_or_none (sym c.unwrap.ensures) ∙ c.undefined_fault-fault.ensures), c.requires.0.inside, c.well_formed, g.met.S.Source.fits c.args.buffer.now)

pub returns-then-undefined_bits : goal.returns-then-undefined_bits
returns-then-undefined_bits g c =
    let four : c.args.at + 4 ≤ length (g.S.Source.words c.args.buffer.now) = omega (arith, c.if-len-at.false, c.len.ensures) in
    λ e. ap Err c.behind.ensures
    ∙ sym (group-undefined _ _ _ _ c.requires.0 c.ranges.id.fits c.requires.1 four _ c.group_at-g.ensures c.undefined_bits.ensures c.if-undefined_bits.true _ (ap refusal_or_none (sym c.unwrap.ensures) ∙ c.undefined_fault-fault.ensures))

pub returns-then-not-group_in_place : goal.returns-then-not-group_in_place
returns-then-not-group_in_place g c =
    let four : c.args.at + 4 ≤ length (g.S.Source.words c.args.buffer.now) = omega (arith, c.if-len-at.false, c.len.ensures) in
    λ e. absurd (group_out g.S.Source.words g.S.Source.placed c.args.buffer.now c.args.at _ _ c.requires.0 c.ranges.id.fits g.met.S.Source.parts c.requires.1 four _ c.group_at-g.ensures _ refl (sym c.group_in_place.ensures ∙ c.if-not-group_in_place.true) e)

pub primitive_command-requires : goal.primitive_command-requires
primitive_command-requires g c = omega (arith, c.requires.0.inside, c.well_formed, g.met.S.Source.fits c.args.buffer.now)

pub returns-then-id-eq72 : goal.returns-then-id-eq72
returns-then-id-eq72 g c =
    let four : c.args.at + 4 ≤ length (g.S.Source.words c.args.buffer.now) = omega (arith, c.if-len-at.false, c.len.ensures) in
    let t = sym c.group_in_place.ensures ∙ c.if-not-group_in_place.false in
    let z = no_payload c.args.id _ (more c.group_at-g.result) (λ e. omega (arith, e, c.if-id-eq72.true)) in
    subst (Met g.S.Source.words g.S.Source.placed c.args.buffer.now c.args.at)
    (ap (λ (i : ℕ). if_legal c.args.at i c.group_at-g.result (Ok (group_of 4 c.args.row))) c.if-id-eq72.true ∙ sym c.primitive_command.ensures)
    (met_fixed g.S.Source.words g.S.Source.placed c.args.buffer.now c.args.at _ _ c.requires.0 c.ranges.id.fits g.met.S.Source.parts c.requires.1 four _ c.group_at-g.ensures _ refl t c.undefined_bits.ensures c.if-undefined_bits.false z)

pub load_command-requires : goal.load_command-requires
load_command-requires g c = omega (arith, c.if-len-at.false, c.len.ensures)

pub returns-then-id-eq64 : goal.returns-then-id-eq64
returns-then-id-eq64 g c =
    let four : c.args.at + 4 ≤ length (g.S.Source.words c.args.buffer.now) = omega (arith, c.if-len-at.false, c.len.ensures) in
    let t = sym c.group_in_place.ensures ∙ c.if-not-group_in_place.false in
    let h = c.group_at-g.result in
    subst (Met g.S.Source.words g.S.Source.placed c.args.buffer.now c.args.at)
    (ap (λ (i : ℕ). if_legal c.args.at i h (placed_group g.S.Source.words g.S.Source.placed c.args.buffer.now c.args.at i (payload i h.header (more h)) c.args.row)) c.if-id-eq64.true ∙ sym c.load_command.ensures)
    (met-group g.S.Source.words g.S.Source.placed c.args.buffer.now c.args.at _ _ c.requires.0 c.ranges.id.fits g.met.S.Source.parts c.requires.1 four _ c.group_at-g.ensures _ refl t c.undefined_bits.ensures c.if-undefined_bits.false)

pub other_command-requires : goal.other_command-requires
other_command-requires g c = (omega (arith, c.requires.0.inside, c.well_formed, g.met.S.Source.fits c.args.buffer.now), c.if-id-eq64.false, c.if-id-eq72.false)

pub returns : goal.returns
returns g c =
    let four : c.args.at + 4 ≤ length (g.S.Source.words c.args.buffer.now) = omega (arith, c.if-len-at.false, c.len.ensures) in
    let t = sym c.group_in_place.ensures ∙ c.if-not-group_in_place.false in
    let z = no_payload c.args.id _ (more c.group_at-g.result) c.if-id-eq64.false in
    subst (Met g.S.Source.words g.S.Source.placed c.args.buffer.now c.args.at) (sym c.other_command.ensures)
    (met_fixed g.S.Source.words g.S.Source.placed c.args.buffer.now c.args.at _ _ c.requires.0 c.ranges.id.fits g.met.S.Source.parts c.requires.1 four _ c.group_at-g.ensures _ refl t c.undefined_bits.ensures c.if-undefined_bits.false z)
