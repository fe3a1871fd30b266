-- One step and the walk in a buffer whose words may be out of place.
use Prim.Native.Nat.{ℕ, ◌^◌, ◌≤◌, ◌<◌}
use mathlib.Core.Path.{◌≡◌, refl, ◌∙◌}
use mathlib.Core.Bool.{Bool}
use mathlib.Core.List.{List}
use mathlib.Core.Option.{Option, none, some}
use lib.ListN.{length}
use Rattle.rules.specs.Verdict.{Refusal}
use Rattle.rules.specs.Walk.{walk}
use Rattle.rules.specs.Pci.{unless}
use Rattle.theory.proofs.Valid.{first_holds}
use Rattle.std.specs.Prelude.{Result, Ok, Err}
use Rattle.command.specs.declared.Command.{Command as Kept}
use Rattle.command.specs.View.{InPlace, Passed, Met}
use Rattle.list.specs.declared.Cursor.{Cursor}
use Rattle.list.specs.View.{origin, kept_faults, refuse_at, advanced, taken, Steps, InsideAfter, Stepped, Walks, or_else, walk_words}
use Rattle.list.proofs.Steps.{step-taken, inside-after, Walking, walking_start, walking_stop, walking_on, walking_end}

module _ (words : List ℕ → List ℕ) (placed : List ℕ → ℕ → ℕ → ℕ → Bool) (b : List ℕ) (c : Cursor) where
  pub met-inside : (d : Result Kept Refusal) → Met words placed b c.at d → length (words b) < 2 ^ 62 → c.at < length (words b) → InsideAfter c d
  met-inside (Err f) m long inside = tt
  met-inside (Ok k) m long inside = inside-after (words b) c (Ok k) m.0 long inside

  pub stepped : (d : Result Kept Refusal) → Met words placed b c.at d → Stepped words placed b c (taken c d)
  stepped (Err f) m = λ e. step-taken (words b) c (Err f) (m e)
  stepped (Ok k) m =
      first_holds (λ d. Steps (words b) c (advanced c d) → Stepped words placed b c (advanced c d)) (refuse_at c) (λ f t e. t) (kept_faults c k) (Ok k) (λ t. (t, m.1))
      (step-taken (words b) c (Ok k) m.0)

-- ---- the walk

module _ (words : List ℕ → List ℕ) (placed : List ℕ → ℕ → ℕ → ℕ → Bool) (amiss : List ℕ → ℕ → Option Refusal) (b : List ℕ) where
  -- at a cursor nothing is amiss before it
  pub record Passing (c : Cursor) : Type 0 where
    pub walking : Walking (words b) c
    pub same : amiss b 0 ≡ amiss b c.at

  pub passing_start : Passing origin
  passing_start = record { walking = walking_start (words b); same = refl }

  module _ (c : Cursor) (g : Passing c) where
    by_amiss : (amiss b c.at ≡ none → InPlace words placed b c.at) → (x : Option Refusal) → amiss b c.at ≡ x → (f : Refusal) → c.at < length (words b)
        → Stepped words placed b c (Err f) → Walks (λ s. unless x (walk s 0 0 (words b))) (Err (or_else x f))
    by_amiss p (some r) e f h q = λ s a. refl
    by_amiss p none e f h q = walking_stop (words b) c h f g.walking (q (p e))

    pub passing_stop : (amiss b c.at ≡ none → InPlace words placed b c.at) → (f r : Refusal) → c.at < length (words b) → Stepped words placed b c (Err f)
        → r ≡ or_else (amiss b c.at) f → Walks (walk_words words amiss b) (Err r)
    passing_stop p f r h q e = rw (e, g.same) (by_amiss p (amiss b c.at) refl f h q)

    pub passing_on : ((to : ℕ) → Passed words placed b c.at to → amiss b c.at ≡ amiss b to) → (e : Cursor) → c.at < length (words b)
        → Stepped words placed b c (Ok e) → (c.at < e.at) × Passing e
    passing_on p e h s =
        let w = walking_on (words b) c h e g.walking s.0 in
        (w.0, record { walking = w.1; same = g.same ∙ p e.at s.1 })

    pub passing_end : amiss b c.at ≡ none → length (words b) ≤ c.at → Walks (walk_words words amiss b) (Ok (record { commands = c.commands; records = c.records }))
    passing_end p h = rw (g.same ∙ p) (walking_end (words b) c g.walking h)
