-- What a form remembers of the settings, as lists by their numbers.
use Rattle.std.specs.Prelude.{ℕ, List, map}
use Rattle.settings.specs.declared.Memory.{Memory}

-- where each setting was last set
abbrev pub latest_of : Memory → List ℕ
latest_of m = map (λ p. p.latest) m.places

-- where the command stands that was last put out for each
abbrev pub sent_of : Memory → List ℕ
sent_of m = map (λ p. p.sent) m.places
