-- The reader's answer, by what the first pass found.
use Prim.Native.Nat.{ℕ, ◌*◌, ◌/◌, ◌≤◌, ◌<◌}
use native.Mathlib.Omega.{arith}
use mathlib.Core.Path.{◌≡◌, ap, sym, ◌∙◌}
use mathlib.Core.List.{List}
use borrow.Author.Tests.{lt-ltb, le-ltb}
use lib.ListN.{length}
use lib.Seq.{sets}
use Rattle.rules.specs.Verdict.{Refusal}
use Rattle.rules.specs.Command.{Command}
use Rattle.rules.specs.Values.{refusal}
use Rattle.rules.specs.Walk.{Parsed, refused, accepted, parse}
use Rattle.rules.specs.Image.{final}
use Rattle.rules.specs.Records.{records, record_words}
use Rattle.rules.specs.Answer.{accepted_answer, outcome, refuse, room, read_parsed, reading, commands_of, commands_from, records_from}
use Rattle.theory.proofs.Verdict.{length-record_words}
use Rattle.std.specs.Prelude.{Ok, Err}
use Rattle.list.specs.View.{walked_of}
use Rattle.list.proofs.Answers.{Counts, counts, put_front}

module _ (l image buffer : List ℕ) where
  by_refused : (x : Parsed) (f : Refusal) → walked_of x ≡ Err f → refuse f image buffer ≡ read_parsed l image buffer x
  by_refused (refused g) f e = let eg : f ≡ g = cc in ap (λ (x : Refusal). refuse x image buffer) eg
  by_refused (accepted cs) f e = let z : ◌≡◌ {A = ℕ} 0 1 = cc in absurd (omega arith)

  -- refusals 1 to 10
  pub read-refused : (f : Refusal) → walked_of (parse image l) ≡ Err f → refuse f image buffer ≡ reading l image buffer
  unfolding reading
  read-refused f e = by_refused (parse image l) f e

  module _ (c k : ℕ) (e : walked_of (parse image l) ≡ Ok (record { commands = c; records = k })) where
    cs : List Command
    cs = commands_of (parse image l)

    n : Counts (parse image l) c k
    n = counts (parse image l) c k e

    -- 11
    pub read_short : length buffer / 4 < k → refuse (refusal 11 (length l)) image buffer ≡ reading l image buffer
    unfolding reading cs
    read_short h =
        sym (ap (read_parsed l image buffer) n.is ∙ rw (lt-ltb (room buffer) (length (records 0 (commands_of (parse image l)))) (omega (arith, n.records_are))))

    pub read_fits : k ≤ length buffer / 4 → length (records_from image l) ≤ length buffer
    read_fits h = omega (arith, length-record_words (records 0 (commands_of (parse image l))), n.records_are)

    pub read_done : k ≤ length buffer / 4
        → outcome (accepted_answer (length l) c k (k * 4)) (final image (commands_from image l)) (sets buffer 0 (records_from image l)) ≡ reading l image buffer
    unfolding reading cs
    read_done h =
        let w = length-record_words (records 0 (commands_of (parse image l))) in
        let words : length (record_words (records 0 (commands_of (parse image l)))) ≡ k * 4 = omega (arith, n.records_are) in
        sym (ap (read_parsed l image buffer) n.is
        ∙ rw (
          le-ltb (room buffer) (length (records 0 (commands_of (parse image l)))) (omega (arith, n.records_are)),
          ← put_front buffer (record_words (records 0 (commands_of (parse image l)))) (omega arith),
          words,
          n.commands,
          n.records_are,
        ))
