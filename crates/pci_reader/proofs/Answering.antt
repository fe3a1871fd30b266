-- The answer of `from_pci`, by what the first pass found and the buffer's length.
use Prim.Native.Nat.{ℕ, ◌≤◌, ◌<◌}
use native.Mathlib.Omega.{arith}
use mathlib.Core.Path.{◌≡◌, refl}
use mathlib.Core.List.{List}
use lib.ListN.{length}
use lib.Seq.{sets}
use Rattle.rules.specs.Verdict.{Refusal}
use Rattle.rules.specs.Values.{refusal}
use Rattle.rules.specs.Answer.{accepted_answer, refuse}
use Rattle.rules.specs.Pci.{values, parse_pairs, from_pci}
use Rattle.std.specs.Prelude.{Ok, Err}
use Rattle.list.specs.View.{walked_of}
use Rattle.list.proofs.Answers.{answer-refused, answer-short, answer-done}

module _ (ps image buffer : List ℕ) where
  pub from-refused : (f : Refusal) → walked_of (parse_pairs image ps) ≡ Err f → refuse f image buffer ≡ from_pci ps image buffer
  unfolding from_pci
  from-refused f e = answer-refused (λ cs. values ps) (values ps) image buffer (parse_pairs image ps) f e

  module _ (c k n : ℕ) (e : walked_of (parse_pairs image ps) ≡ Ok (record { commands = c; records = k })) (en : n ≡ length (values ps)) where
    pub from-short : length buffer < n → refuse (refusal 11 n) image buffer ≡ from_pci ps image buffer
    unfolding from_pci
    from-short h = rw en (answer-short (λ cs. values ps) (values ps) image buffer (parse_pairs image ps) c k e (omega arith))

    pub from-done : n ≤ length buffer
        → record {
          answer = accepted_answer n c k n;
          image = image;
          buffer = sets buffer 0 (values ps);
        } ≡ from_pci ps image buffer
    unfolding from_pci
    from-done h = rw en (answer-done (λ cs. values ps) (values ps) image buffer (parse_pairs image ps) c k e (length (values ps)) refl (omega arith))
