-- What the parts of a command do, taken together.
use Prim.Native.Nat.{ℕ, ◌+◌, ◌-◌, ◌≤◌, ◌<◌}
use native.Mathlib.Omega.{arith}
use mathlib.Core.Path.{◌≡◌, refl, ap, ◌∙◌}
use mathlib.Core.List.{List, map}
use lib.ListN.{length, get_or, set, take, drop}
use lib.Seq.{sets, map-set_same}
use borrow.Author.Tests.{ne_eqb}
use Rattle.rules.specs.Word.{id_of}
use Rattle.rules.specs.Form.{read}
use Rattle.theory.proofs.Image.{length-read}
use Rattle.table.specs.Ids.{setting_kind}
use Rattle.command.specs.View.{size_at}
use Rattle.command.specs.Effects.{id_at}
use Rattle.command.proofs.Effects.{no_kind, is-group, is-single}
use Rattle.settings.specs.declared.Places.{Places}
use Rattle.settings.specs.Numbers.{number_of}
use Rattle.settings.specs.Output.{Output, emit_changed}
use Rattle.settings.proofs.Slices.{read_take}
use Rattle.draft.specs.Drafts.{Drafted, output_of, behind_setting, after_work, after_command, CanWork, CanTake}

module _ (l image : List ℕ) (s : Drafted) (h : CanTake l image s) where
  abbrev kind : ℕ
  kind = setting_kind (id_at l s.at)

  pub setting_number : (setting_kind (id_of (get_or l s.at 0)) ≡ 0 → ⊥) → number_of (id_of (get_or l s.at 0)) < 64
  setting_number f = h.number f

  pub took-setting : (kind ≡ 0 → ⊥) → (words : ℕ) → size_at l s.at ≡ words → behind_setting (id_at l s.at) words s ≡ after_command l image s
  unfolding after_command
  took-setting f words es = rw (ne_eqb kind 0 f, es)

  pub took_group : setting_kind (id_of (get_or l s.at 0)) ≡ 2 → behind_setting (id_of (get_or l s.at 0)) 4 s ≡ after_command l image s
  took_group e = took-setting (omega arith) 4 (is-group l s.at h.command e).size

  pub took_single : setting_kind (id_of (get_or l s.at 0)) ≡ 1 → behind_setting (id_of (get_or l s.at 0)) 1 s ≡ after_command l image s
  took_single e = took-setting (omega arith) 1 (is-single l s.at h.command e).size

  module _ (f : setting_kind (id_of (get_or l s.at 0)) ≡ 2 → ⊥) (g : setting_kind (id_of (get_or l s.at 0)) ≡ 1 → ⊥) where
    pub can_work : CanWork l image s
    can_work = h.work (no_kind (id_at l s.at) f g)

    pub took_work : after_work l image s ≡ after_command l image s
    unfolding after_command
    took_work = rw (no_kind (id_at l s.at) f g)

-- a setting's latest command leaves the one last put out
pub sent-kept : (ps : List Places) (k at : ℕ)
    → map (λ (p : Places). p.sent) (set ps k (record { latest = at; sent = (get_or ps k (record { latest = 0; sent = 0 })).sent })) ≡ map (λ (p : Places). p.sent) ps
sent-kept ps k at = map-set_same (λ (p : Places). p.sent) ps k _ (record { latest = 0; sent = 0 }) refl

-- a work command, by what its parts did
module _ (l image : List ℕ) (s : Drafted) (size : ℕ) (es : size ≡ size_at l s.at) (inside : s.at + size ≤ length l) where
  abbrev work : List ℕ
  work = take (s.at + size - s.at) (drop s.at l)

  work-is : work ≡ read l s.at size
  work-is = let n : s.at + size - s.at ≡ size = omega arith in rw n (read_take l s.at size inside)

  pub work-long : length work ≡ size
  work-long = ap length work-is ∙ length-read l s.at size

  pub worked : (o : Output) (out : List ℕ) → o ≡ emit_changed s.changed l image s.latest (output_of s) → out ≡ sets o.out o.written work
      → record {
        at = s.at + length work;
        written = o.written + length work;
        changed = 0;
        latest = s.latest;
        sent = o.sent;
        out = out;
      } ≡ after_work l image s
  worked o out eo e = rw (e, work-long, work-is, es) (rw eo)
