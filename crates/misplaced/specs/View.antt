-- The first pair out of place, as the code has it.
use Rattle.std.specs.Prelude.{ℕ, zero, suc, ◌+◌, ◌≤◌, ◌<◌, ◌≡◌, true, false, List, [], ◌∷◌, eqb, length, get_or}
use Rattle.std.proofs.Math.Option.{Option}
use Rattle.rules.specs.Verdict.{Refusal}
use Rattle.rules.specs.Form.{read}
use Rattle.rules.specs.Pci.{address, values, misplaced, outside}
use Rattle.pairs.specs.View.{addresses}
use Rattle.placed.specs.View.{placed}

-- the pairs from number n on
abbrev pub behind : ℕ → List ℕ → List ℕ
behind zero ps = ps
behind (suc n) [] = []
behind (suc n) (a ∷ []) = []
behind (suc n) (a ∷ v ∷ ps) = behind n ps

-- r of a command's pairs, from its first on, are there and in place, and the next is not
pub record Leading (ps : List ℕ) (at words id r : ℕ) : Type 0 where
  pub most : r ≤ words
  pub there : at + r ≤ length (values ps)
  pub right : placed id 0 (read (addresses ps) at r) ≡ true
  pub wrong : r < words → at + r < length (values ps) → eqb (get_or (addresses ps) (at + r) 0) (address id r) ≡ false

-- 13 or 14 from pair n on
abbrev pub misplaced_from : ℕ → List ℕ → Option Refusal
misplaced_from n ps = misplaced outside 0 n (behind n ps)
