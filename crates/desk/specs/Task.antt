-- The tasks by their numbers.
use Rattle.std.specs.Prelude.{◌≡◌, ℕ, ◌<◌, Result, MatchResult}
use Rattle.desk.specs.declared.Task.{Task}
use Rattle.desk.specs.declared.Task.TheVariants.{Show, Image, Normalise, Pci, List}
use Rattle.desk.specs.declared.UnknownTask.{UnknownTask}

abbrev pub number_of : Task → ℕ
number_of Show = 0
number_of Image = 1
number_of Normalise = 2
number_of Pci = 3
number_of List = 4

-- the task that has a number, or the number, which none has
abbrev pub IsNumbered : ℕ → Result Task UnknownTask → Type 0
IsNumbered n r = MatchResult r (λ task. number_of task ≡ n) (λ e. (e.0 ≡ n) × (4 < n))
