-- The modes of document 02, Ticket 7, by their numbers.
use Rattle.std.specs.Prelude.{ℕ, ◌≡◌, ◌<◌, Result, MatchResult}
use Rattle.rules.specs.declared.Refusal.{Refusal}
use Rattle.rules.specs.Values.{refusal}
use Rattle.rules.specs.Returned.{numbered_refusal}
use Rattle.swap.specs.declared.Mode.{Mode}
use Rattle.swap.specs.declared.Mode.TheVariants as mode

abbrev pub mode_number : Mode → ℕ
mode_number mode.Unchanged = 0
mode_number mode.BytesInHalves = 1
mode_number mode.Halves = 2
mode_number mode.AllBytes = 3

-- the mode of a number, or "21 for a mode over 3", at 0
abbrev pub Decodes : ℕ → Result Mode Refusal → Type 0
Decodes number r = MatchResult r (λ m. mode_number m ≡ number) (λ f. (numbered_refusal f ≡ refusal 21 0) × (3 < number))
