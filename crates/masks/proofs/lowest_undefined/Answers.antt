use mathlib.Core.Path.{◌≡◌, sym, subst}
use Prim.Native.Nat.{ℕ}
use Rattle.rules.specs.Word.{lowest_undefined, LowestOrNone}
use Rattle.theory.proofs.Lowest.{lowest_or_none}
use Rattle.masks.proofs.Masked.{trailing, masked}
use Rattle.masks.proofs.lowest_undefined.Goals as goal

-- what is told by its definition is told in terms of bits
told : (w m r : ℕ) → r ≡ lowest_undefined w m → (r ≡ lowest_undefined w m) × LowestOrNone w m r
told w m r e = (e, subst (LowestOrNone w m) (sym e) (lowest_or_none w m))

pub returns-then-outside-eq0 : goal.returns-then-outside-eq0
returns-then-outside-eq0 c = told _ _ _ (sym (masked 32 _ _ c.ranges.mask.fits c.if-outside-eq0.true))

pub returns : goal.returns
returns c = told _ _ _ (trailing 32 _ _ c.ranges.mask.fits)
