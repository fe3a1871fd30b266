use native.Mathlib.Omega.{arith}
use mathlib.Core.Path.{ap, ◌∙◌}
use Rattle.rules.specs.Word.{id_of}
use Rattle.table.specs.Ids.{setting_kind}
use Rattle.draft.specs.Drafts.{made}
use Rattle.draft.proofs.Taking.{took_group, took_single, took_work, can_work}
use Rattle.draft.proofs.Draft.take_command.Goals as goal

pub returns-then-kind-eq-GROUP : goal.returns-then-kind-eq-GROUP
returns-then-kind-eq-GROUP c =
    let t = took_group _ _ (made c.args.self.now c.args.memory.now c.args.out.now) c.requires in
    let u = c.take_setting.ensures c.args.out.now in
    grind (arith, t, u)

pub returns-then-kind-eq-SINGLE : goal.returns-then-kind-eq-SINGLE
returns-then-kind-eq-SINGLE c =
    let t = took_single _ _ (made c.args.self.now c.args.memory.now c.args.out.now) c.requires in
    let u = c.take_setting-then-kind-eq-SINGLE.ensures c.args.out.now in
    grind (arith, t, u)

pub emit_work-requires : goal.emit_work-requires
emit_work-requires c =
    let k = c.kind-kind.ensures ∙ ap setting_kind (c.id_of-id.ensures ∙ ap id_of c.fetch.ensures) in
    can_work _ _ (made c.args.self.now c.args.memory.now c.args.out.now) c.requires (λ z. c.if-kind-eq-GROUP.false (k ∙ z)) (λ z. c.if-kind-eq-SINGLE.false (k ∙ z))

pub returns : goal.returns
returns c =
    let t = took_work _ _ (made c.args.self.now c.args.memory.now c.args.out.now) c.requires in
    grind (arith, t)
