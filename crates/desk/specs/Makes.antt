-- What the functions that make something promise.
use Rattle.std.specs.Prelude.{ℕ, ◌≤◌, ◌≡◌, false, List, [], ◌++◌, Some, None, if◌then◌else◌, length}
use Rattle.std.proofs.lemmas.List.Edits.{sets}
use Rattle.desk.specs.declared.Sizes.{Sizes}
use Rattle.desk.specs.Desk.{Made}

-- the text and the bytes stand in front of the lent buffers, and their sizes are told, of the bytes only where they are to be
-- written
pub record Makes (m : Made) (text₀ out₀ text out : List ℕ) (s : Sizes) : Type 0 where
  pub text-is : text ≡ sets text₀ 0 (m.verdict ++ m.done)
  pub verdict-size : s.verdict ≡ length m.verdict
  pub text-size : s.text ≡ length (m.verdict ++ m.done)
  pub out-is : out ≡ sets out₀ 0 m.out
  pub unwritten : m.writes ≡ false → m.out ≡ []
  pub out-size : s.out ≡ (if m.writes then Some (length m.out) else None)
  pub text-bound : length (m.verdict ++ m.done) ≤ 310000
  pub out-bound : length m.out ≤ 32768
