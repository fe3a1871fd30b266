-- Addresses in place, as the code has them.
use Rattle.std.specs.Prelude.{ℕ, suc, Bool, true, ◌&&◌, List, [], ◌∷◌, eqb}
use Rattle.rules.specs.Pci.{address}

-- some addresses are those of a command's words from word k on
abbrev pub placed : ℕ → ℕ → List ℕ → Bool
placed id k [] = true
placed id k (a ∷ xs) = eqb a (address id k) && placed id (suc k) xs
