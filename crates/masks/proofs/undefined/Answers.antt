use mathlib.Core.Bool.{Bool, true, false, not}
use mathlib.Core.Path.{◌≡◌, refl, sym}
use Prim.Native.Nat.{ℕ, ◌-◌, ◌<◌, ◌^◌}
use lib.Bits.{bit_and}
use lib.Dec.{eqb}
use borrow.Author.Tests.{lt-ltb, eqb-true, eqb-false}
use Rattle.rules.specs.Word.{undefined}
use Rattle.masks.proofs.Masked.{masked, unmasked}
use Rattle.masks.proofs.undefined.Goals as goal

test : (w m : ℕ) → m < 2 ^ 32 → w < 2 ^ 32 → (b : Bool) → eqb (bit_and w (4294967295 - m)) 0 ≡ b → not b ≡ undefined w m
unfolding undefined
test w m h g true e = let l = masked 32 w m h (eqb-true _ _ e) in rw l
test w m h g false e = let l = unmasked 32 w m h g (eqb-false _ _ e) in sym (lt-ltb _ _ l)

pub returns : goal.returns
returns c = test c.args.word c.args.mask c.ranges.mask.fits c.ranges.word.fits _ refl
