-- What one command of an accepted list does to a form that is being written.
use Rattle.std.specs.Prelude.{ℕ, ◌+◌, ◌^◌, ◌≤◌, ◌<◌, ◌≡◌, cond, List, eqb, set}
use Rattle.std.specs.Int.Bits.{bit_or}
use Rattle.std.proofs.lemmas.List.Edits.{sets}
use Rattle.rules.specs.Form.{read}
use Rattle.table.specs.Ids.{setting_kind}
use Rattle.command.specs.View.{size_at}
use Rattle.command.specs.Effects.{id_at, CommandAt}
use Rattle.draft.specs.declared.Draft.{Draft}
use Rattle.settings.specs.declared.Memory.{Memory}
use Rattle.settings.specs.Numbers.{number_of}
use Rattle.settings.specs.Remembered.{latest_of, sent_of}
use Rattle.settings.specs.Output.{longest, Output, put, emit_changed, CanEmitChanged}

-- where the form stands, the settings set since the last work command, where each setting was last set, where its command
-- last put out stands, and the buffer
pub record Drafted : Type 0 where
  pub at : ℕ
  pub written : ℕ
  pub changed : ℕ
  pub latest : List ℕ
  pub sent : List ℕ
  pub out : List ℕ

-- a draft, what is remembered, and the buffer
abbrev pub made : Draft → Memory → List ℕ → Drafted
made d m out =
    record {
      at = d.at;
      written = d.written;
      changed = d.changed;
      latest = latest_of m;
      sent = sent_of m;
      out = out;
    }

abbrev pub output_of : Drafted → Output
output_of s = put s.written s.sent s.out

-- behind a setting of some words: it is the latest of its number
abbrev pub behind_setting : ℕ → ℕ → Drafted → Drafted
behind_setting id words s =
    record {
      at = s.at + words;
      written = s.written;
      changed = bit_or s.changed (2 ^ number_of id);
      latest = set s.latest (number_of id) s.at;
      sent = s.sent;
      out = s.out;
    }

abbrev pub after_setting : List ℕ → Drafted → Drafted
after_setting l s = behind_setting (id_at l s.at) (size_at l s.at) s

-- before a work command the settings that differ are put out
abbrev pub after_work : List ℕ → List ℕ → Drafted → Drafted
after_work l image s =
    let o = emit_changed s.changed l image s.latest (output_of s) in
    record {
      at = s.at + size_at l s.at;
      written = o.written + size_at l s.at;
      changed = 0;
      latest = s.latest;
      sent = o.sent;
      out = sets o.out o.written (read l s.at (size_at l s.at));
    }

unfoldable pub after_command : List ℕ → List ℕ → Drafted → Drafted
after_command l image s =
    let setting = after_setting l s in
    let work = after_work l image s in
    cond {A = Drafted} (eqb (setting_kind (id_at l s.at)) 0) work setting

-- a work command stands at the position
pub record CanWork (l image : List ℕ) (s : Drafted) : Type 0 where
  pub command : CommandAt l s.at
  pub emits : CanEmitChanged s.changed l image s.latest (output_of s)
  pub fits : (emit_changed s.changed l image s.latest (output_of s)).written ≤ longest

-- a command stands at the position
pub record CanTake (l image : List ℕ) (s : Drafted) : Type 0 where
  pub command : CommandAt l s.at
  pub number : (setting_kind (id_at l s.at) ≡ 0 → ⊥) → number_of (id_at l s.at) < 64
  pub work : setting_kind (id_at l s.at) ≡ 0 → CanWork l image s
