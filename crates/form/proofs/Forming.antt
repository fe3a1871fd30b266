-- The pass over an accepted list: its commands are taken into the form one by one.
use Prim.Native.Nat.{ℕ, ◌≤◌, ◌<◌}
use mathlib.Core.Path.{◌≡◌, ap, sym, ◌∙◌}
use mathlib.Core.List.{List, ◌++◌, append-nil}
use lib.ListN.{length, replicate}
use lib.Seq.{sets}
use Rattle.rules.specs.Command.{Command, words_all}
use Rattle.rules.specs.Walk.{accepted, parse}
use Rattle.rules.specs.Valid.{Accepted}
use Rattle.rules.specs.Answer.{commands_of, normal_form}
use Rattle.theory.proofs.Parse.{parse-accepted}
use Rattle.settings.specs.Output.{Output, emit_changed, CanEmitChanged}
use Rattle.draft.specs.Drafts.{Drafted, output_of, after_command, CanTake}
use Rattle.draft.proofs.Forming.{Forming, forming_start, can_end, forming_end, can_take, forming_on}
use Rattle.list.proofs.Position.{Position, position-start, position_end, AtCommand, after, at_command}

pub record Formed (image₀ l start : List ℕ) (s : Drafted) : Type 0 where
  pub position : Position (commands_of (parse image₀ l)) l s.at
  pub forming : Forming image₀ l start position.done s

module _ (image₀ l start : List ℕ) (e : parse image₀ l ≡ accepted (commands_of (parse image₀ l))) where
  abbrev all : List Command
  all = commands_of (parse image₀ l)

  a : Accepted image₀ l all
  a = parse-accepted image₀ l all e

  pub formed_start : Formed image₀ l start (record { at = 0; written = 0; changed = 0; latest = replicate 64 0; sent = replicate 64 0; out = start })
  formed_start = record { position = position-start image₀ l all e; forming = forming_start image₀ l start a.few a.whole }

  module _ (s : Drafted) (g : Formed image₀ l start s) where
    pub formed_can_end : CanEmitChanged s.changed l image₀ s.latest (output_of s)
    formed_can_end = can_end image₀ l start a.few a.whole g.position.done s g.forming

    pub formed_end : length l ≤ s.at → (o : Output) → o ≡ emit_changed s.changed l image₀ s.latest (output_of s)
        → (o.written ≡ length (normal_form image₀ l)) × (o.out ≡ sets start 0 (normal_form image₀ l))
    formed_end past o eo =
        let is : all ≡ g.position.done =
        g.position.all-is ∙ ap (λ (x : List Command). g.position.done ++ x) (position_end all l s.at g.position past) ∙ append-nil g.position.done in
        rw is (forming_end image₀ l start a.few a.whole g.position.done s g.forming o eo)

    module _ (inside : s.at < length l) where
      t : AtCommand all l s.at g.position
      t = at_command all l s.at g.position inside

      pub formed_can_take : CanTake l image₀ s
      formed_can_take = can_take image₀ l start a.few a.whole g.position.done s g.forming t.command (words_all t.later) t.stands

      pub formed_on : (s' : Drafted) → s' ≡ after_command l image₀ s → (s.at < s'.at) × Formed image₀ l start s'
      formed_on s' es =
          let f = forming_on image₀ l start a.few a.whole g.position.done s g.forming t.command (words_all t.later) t.stands s' es in
          (f.0, record { position = after g.position t s'.at (f.1.at_is ∙ sym t.after_at); forming = f.1 })
