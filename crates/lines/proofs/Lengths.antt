-- How long a line is.
use Prim.Native.Nat.{ℕ, ◌≤◌, ◌<◌}
use native.Mathlib.Omega.{arith}
use lib.ListN.{length, length-append}
use Rattle.text.proofs.Numbers.{hex-length, decimal-length, decimal-short}
use Rattle.format.specs.Format.{formatted}
use Rattle.lines.specs.Lines.{line, counts_line, refused_line}

pub counts_length : (m n : ℕ) → length (counts_line m n) ≤ 66
unfolding formatted
counts_length m n = simp length-append (omega (arith, decimal-length m, decimal-length n))

pub refused-length : (m n : ℕ) → length (refused_line m n) ≤ 53
unfolding formatted
refused-length m n = simp length-append (omega (arith, decimal-length m, decimal-length n))

pub line-length : (id p n h : ℕ) → p < 10000 → n < 10000 → length (line id p n h) ≤ 20
unfolding formatted
line-length id p n h a b = simp (length-append, hex-length) (omega (arith, decimal-short 3 p a (omega arith), decimal-short 3 n b (omega arith)))
