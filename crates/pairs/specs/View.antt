-- The addresses of a buffer's pairs; `values` of crates/rules/specs/Pci.antt gives their values.
use Rattle.std.specs.Prelude.{ℕ, List, [], ◌∷◌}

abbrev pub addresses : List ℕ → List ℕ
addresses [] = []
addresses (a ∷ []) = []
addresses (a ∷ v ∷ ps) = a ∷ addresses ps
