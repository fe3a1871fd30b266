-- What a list does, from a starting image (document 01, "What a command leaves").
use Rattle.std.specs.Prelude.{ℕ, cond, List, [], ◌∷◌}
use Rattle.rules.specs.Table.{is_setting}
use Rattle.rules.specs.Command.{Command, words}
use Rattle.rules.specs.Image.{apply, final}

-- a work command, "with all its words, payload included, and with the 256 words of the image it meets"
pub record Work : Type 0 where
  pub said : List ℕ
  pub met : List ℕ

-- "its work commands in list order"
abbrev pub works : List ℕ → List Command → List Work
works image [] = []
works image (c ∷ cs) =
    let later = works (apply c image) cs in
    cond (is_setting c.row.kind) later (record { said = words c; met = image } ∷ later)

-- "two parts": the work, and "the image after its last command, which for the empty list is the starting image".
-- Two lists do the same from an image where their effects are equal.
pub record Effect : Type 0 where
  pub done : List Work
  pub left : List ℕ

abbrev pub effect : List ℕ → List Command → Effect
effect image cs = record { done = works image cs; left = final image cs }
