use mathlib.Core.Path.{sym, ◌∙◌}
use Rattle.command.proofs.Effects.{single_member, no_member, no_record, is-group, is-single}
use Rattle.reader.proofs.Applying.{member_at, kind_at, applied_setting}
use Rattle.reader.proofs.apply_command.Goals as goal

pub set_group-requires : goal.set_group-requires
set_group-requires c = (c.requires.command, kind_at c.args.list.now c.args.p.at _ _ c.fetch.ensures c.id_of-id.ensures _ c.kind.ensures ∙ c.if-kind-eq-GROUP.true, c.requires.long)

pub returns-then-kind-eq-GROUP : goal.returns-then-kind-eq-GROUP
returns-then-kind-eq-GROUP c = let group = kind_at c.args.list.now c.args.p.at _ _ c.fetch.ensures c.id_of-id.ensures _ c.kind.ensures ∙ c.if-kind-eq-GROUP.true in
    let setting = member_at c.args.list.now c.args.p.at _ _ c.fetch.ensures c.id_of-id.ensures _ c.contains.ensures ∙ c.if-contains.true in
    applied_setting _ _ 4 _ _ _ _ (is-group _ _ c.requires.command group).size (no_record _ _ c.requires.command setting) c.set_group.ensures

pub set_single-requires : goal.set_single-requires
set_single-requires c = let setting = member_at c.args.list.now c.args.p.at _ _ c.fetch.ensures c.id_of-id.ensures _ c.contains.ensures ∙ c.if-contains.true in
    (c.requires.command, single_member _ setting (λ z. c.if-kind-eq-GROUP.false (sym (kind_at c.args.list.now c.args.p.at _ _ c.fetch.ensures c.id_of-id.ensures _ c.kind.ensures) ∙ z)), c.requires.long)

pub returns-then-contains : goal.returns-then-contains
returns-then-contains c = let setting = member_at c.args.list.now c.args.p.at _ _ c.fetch.ensures c.id_of-id.ensures _ c.contains.ensures ∙ c.if-contains.true in
    let single = single_member _ setting (λ z. c.if-kind-eq-GROUP.false (sym (kind_at c.args.list.now c.args.p.at _ _ c.fetch.ensures c.id_of-id.ensures _ c.kind.ensures) ∙ z)) in
    applied_setting _ _ 1 _ _ _ _ (is-single _ _ c.requires.command single).size (no_record _ _ c.requires.command setting) c.set_single.ensures

pub apply_work-requires : goal.apply_work-requires
apply_work-requires c = (c.requires, no_member _ (member_at c.args.list.now c.args.p.at _ _ c.fetch.ensures c.id_of-id.ensures _ c.contains.ensures ∙ c.if-contains.false))
