-- The lists that are accepted: the words of commands that the table and the rules allow, in order (document 01, "The
-- commands" and "Verdicts and what stays").
use Rattle.std.specs.Prelude.{ℕ, ◌^◌, ◌≤◌, ◌<◌, ◌≡◌, false, List, [], ◌∷◌, length, take}
use Rattle.std.proofs.Math.Option.{some}
use Rattle.rules.specs.Table.{row_of}
use Rattle.rules.specs.Command.{Command, words_all, own_size, rest_size}
use Rattle.rules.specs.Values.{Fault, faults}
use Rattle.rules.specs.Walk.{State, start, order_faults, next}

abbrev pub NoFault : List Fault → Type 0
NoFault [] = Unit {0}
NoFault (f ∷ fs) = (f.found ≡ false) × NoFault fs

-- a command of the table, whole, with no undefined bit, no illegal value and no clash
pub record Valid (c : Command) : Type 0 where
  pub found : row_of c.row.id ≡ some c.row
  pub small : c.header < 2 ^ 24
  pub size : length c.rest ≡ rest_size c.row c.header c.rest
  pub no_fault : NoFault (faults c.row c.header (take (own_size c.row c.header) c.rest))

abbrev pub AllValid : List Command → Type 0
AllValid [] = Unit {0}
AllValid (c ∷ cs) = Valid c × AllValid cs

-- no command is refused for its order
abbrev pub InOrder : State → List Command → Type 0
InOrder s [] = Unit {0}
InOrder s (c ∷ cs) = NoFault (order_faults s c) × InOrder (next s c) cs

-- some words are those of valid commands that stand in order
pub record Parses (s : State) (ws : List ℕ) (cs : List Command) : Type 0 where
  pub words_are : ws ≡ words_all cs
  pub valid : AllValid cs
  pub ordered : InOrder s cs

-- a whole list, from an image
pub record Accepted (image ws : List ℕ) (cs : List Command) : Type 0 where
  pub few : length ws ≤ 4096
  pub whole : length image ≡ 256
  pub parses : Parses (start image) ws cs
