-- Positions in an accepted list: at the first word of a command, and behind the command's words.
use Prim.Native.Nat.{ℕ, suc, ◌+◌, ◌≤◌, ◌<◌}
use native.Mathlib.Omega.{arith}
use mathlib.Core.Path.{◌≡◌, refl, ap, sym, ◌∙◌}
use mathlib.Core.List.{List, [], ◌∷◌, ◌++◌, append_assoc}
use lib.ListN.{length, drop, length-drop}
use Rattle.rules.specs.Command.{Command, words_all}
use Rattle.rules.specs.Walk.{accepted, parse}
use Rattle.rules.specs.Valid.{AllValid}
use Rattle.theory.proofs.Parse.{parse-accepted}
use Rattle.theory.proofs.Form.{words-on}
use Rattle.command.proofs.Standing.{Stands, stands}

-- the commands of a list before a position and from it on
pub record Position (all : List Command) (l : List ℕ) (at : ℕ) : Type 0 where
  pub done : List Command
  pub rest : List Command
  pub all-is : all ≡ done ++ rest
  pub at_is : at ≡ length (words_all done)
  pub left : drop at l ≡ words_all rest
  pub valid : AllValid rest

abbrev pub position-start : (image l : List ℕ) (cs : List Command) → parse image l ≡ accepted cs → Position cs l 0
position-start image l cs e =
    let a = parse-accepted image l cs e in
    record { done = []; rest = cs; all-is = refl; at_is = refl; left = a.parses.words_are; valid = a.parses.valid }

-- a command at the position
pub record AtCommand (all : List Command) (l : List ℕ) (at : ℕ) (s : Position all l at) : Type 0 where
  pub command : Command
  pub later : List Command
  pub rest-is : s.rest ≡ command ∷ later
  pub stands : Stands l at command (words_all later)
  pub after-all : all ≡ (s.done ++ command ∷ []) ++ later
  pub after_at : at + suc (length command.rest) ≡ length (words_all (s.done ++ command ∷ []))
  pub after-valid : AllValid later

-- behind the command
abbrev pub after : {all : List Command} {l : List ℕ} {at : ℕ} (s : Position all l at) (t : AtCommand all l at s) (next : ℕ)
    → next ≡ at + suc (length t.command.rest) → Position all l next
after {all} {l} {at} s t next e =
    record {
      done = s.done ++ t.command ∷ [];
      rest = t.later;
      all-is = t.after-all;
      at_is = e ∙ t.after_at;
      left = ap (λ (k : ℕ). drop k l) e ∙ t.stands.behind;
      valid = t.after-valid;
    }

module _ (all : List Command) (l : List ℕ) (at : ℕ) (s : Position all l at) where
  pub position_end : length l ≤ at → s.rest ≡ []
  position_end h = by_rest s.rest refl
    where
      by_rest : (cs : List Command) → s.rest ≡ cs → cs ≡ []
      by_rest [] e = refl
      by_rest (c ∷ cs) e = absurd (omega (arith, length-drop at l, ap length (s.left ∙ ap words_all e)))

  module _ (h : at < length l) where
    by_rest : (cs : List Command) → s.rest ≡ cs → AllValid cs → AtCommand all l at s
    by_rest [] e v = absurd (omega (arith, length-drop at l, ap length (s.left ∙ ap words_all e)))
    by_rest (c ∷ cs) e v = record {
      command = c;
      later = cs;
      rest-is = e;
      stands = stands l at c (words_all cs) h v.0 (s.left ∙ ap words_all e);
      after-all = s.all-is ∙ ap (λ (x : List Command). s.done ++ x) e ∙ sym (append_assoc s.done (c ∷ []) cs);
      after_at = words-on s.done c at s.at_is;
      after-valid = v.1;
    }

    pub at_command : AtCommand all l at s
    at_command = by_rest s.rest refl s.valid
