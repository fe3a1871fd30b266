use mathlib.Core.Path.{◌≡◌}
use lib.ListN.{take}
use Rattle.rules.specs.Swap.{words_got}
use Rattle.swap.specs.Mode.{mode_number}
use Rattle.swap.proofs.words_got.Given as goal

abbrev pub invariant-loop-i : goal.invariant-loop-i
invariant-loop-i l = take l.i l.room ≡ take l.i (words_got (mode_number l.mode) l.list)
