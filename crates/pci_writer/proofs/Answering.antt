-- The answer of `to_pci`, by what the first pass found and the buffer's length.
use Prim.Native.Nat.{ℕ, ◌*◌, ◌/◌, ◌≤◌, ◌<◌}
use native.Mathlib.Omega.{arith}
use mathlib.Core.Path.{◌≡◌, ap}
use mathlib.Core.List.{List}
use lib.ListN.{length}
use lib.Seq.{sets}
use Rattle.std.specs.Prelude.{Ok, Err}
use Rattle.rules.specs.Verdict.{Refusal}
use Rattle.rules.specs.Values.{refusal}
use Rattle.rules.specs.Walk.{parse}
use Rattle.rules.specs.Answer.{accepted_answer, refuse, commands_of}
use Rattle.rules.specs.Pci.{pairs_all, to_pci}
use Rattle.theory.proofs.Parse.{parse-accepted}
use Rattle.theory.proofs.Pci.{pairs_length}
use Rattle.list.specs.View.{walked_of}
use Rattle.list.proofs.Answers.{counts, answer-refused, answer-short, answer-done}

module _ (l image buffer : List ℕ) where
  pub to_refused : (f : Refusal) → walked_of (parse image l) ≡ Err f → refuse f image buffer ≡ to_pci l image buffer
  unfolding to_pci
  to_refused f e = answer-refused pairs_all l image buffer (parse image l) f e

  module _ (c k : ℕ) (e : walked_of (parse image l) ≡ Ok (record { commands = c; records = k })) where
    -- two words for each of the list
    to_length : length (pairs_all (commands_of (parse image l))) ≡ 2 * length l
    to_length =
        let a = parse-accepted image l (commands_of (parse image l)) (counts (parse image l) c k e).is in
        omega (arith, pairs_length (commands_of (parse image l)), ap length a.parses.words_are)

    pub to_short : length buffer / 2 < length l → refuse (refusal 11 (length l)) image buffer ≡ to_pci l image buffer
    unfolding to_pci
    to_short h = answer-short pairs_all l image buffer (parse image l) c k e (omega (arith, to_length))

    pub to_done : length l ≤ length buffer / 2
        → record {
          answer = accepted_answer (length l) c k (2 * length l);
          image = image;
          buffer = sets buffer 0 (pairs_all (commands_of (parse image l)));
        } ≡ to_pci l image buffer
    unfolding to_pci
    to_done h = answer-done pairs_all l image buffer (parse image l) c k e (2 * length l) to_length (omega arith)
