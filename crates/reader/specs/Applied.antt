-- What the second pass does with the command at a position of an accepted list.
use Rattle.std.specs.Prelude.{ℕ, ◌+◌, ◌≤◌, ◌≡◌, List, length}
use Rattle.std.proofs.lemmas.List.Edits.{sets}
use Rattle.rules.specs.Image.{apply}
use Rattle.command.specs.View.{size_at}
use Rattle.command.specs.Effects.{command_at, CommandAt, record_at}
use Rattle.reader.specs.declared.Place.{Place}

-- the command can be applied to an image and a record buffer of which some words are written
pub record Applies (l : List ℕ) (at written : ℕ) (image buffer : List ℕ) : Type 0 where
  pub command : CommandAt l at
  pub long : length image ≡ 256
  pub fits : written + length (record_at l at) ≤ length buffer

pub record Applied (l : List ℕ) (at written : ℕ) (image buffer : List ℕ) (p : Place) (image' buffer' : List ℕ) : Type 0 where
  pub place : p ≡ record { at = at + size_at l at; written = written + length (record_at l at) }
  pub image-is : image' ≡ apply (command_at l at) image
  pub buffer-is : buffer' ≡ sets buffer written (record_at l at)
