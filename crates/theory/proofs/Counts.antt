-- What a call of the reader counts, and leaves of its record buffer.
use Prim.Native.Nat.{ℕ, ◌*◌, ◌≤◌}
use native.Mathlib.Omega.{arith}
use mathlib.Core.Path.{◌≡◌, refl, ap}
use mathlib.Core.Bool.{Bool, true, false}
use mathlib.Core.List.{List}
use lib.Dec.{ltb}
use borrow.Author.Tests.{ltb-false}
use lib.ListN.{length, drop, length-append, length-drop}
use lib.Seq.{drop_at}
use Rattle.rules.specs.Verdict.{Refusal}
use Rattle.rules.specs.Command.{Command}
use Rattle.rules.specs.Walk.{Parsed, refused, accepted, parse}
use Rattle.rules.specs.Image.{final}
use Rattle.rules.specs.Records.{records, record_words}
use Rattle.rules.specs.Values.{refusal}
use Rattle.rules.specs.Answer.{Outcome, refuse, accept, fitting, room, read_parsed, reading}
use Rattle.theory.proofs.Numbers.{RefusesList, parse-refuses}
use Rattle.theory.proofs.Parse.{parse-accepted}
use Rattle.theory.proofs.Records.{records-few}
use Rattle.theory.proofs.Verdict.{length-record_words}

-- what a call with a record buffer counts, and what it leaves of the buffer
pub record Counts (o : Outcome) (buffer : List ℕ) : Type 0 where
  pub position : o.answer.position ≤ 4098
  pub commands : o.answer.commands ≤ 4096
  pub records : o.answer.records ≤ 4096
  pub words : o.answer.words ≡ 4 * o.answer.records
  pub fits : o.answer.words ≤ length buffer
  pub behind : drop o.answer.words o.buffer ≡ drop o.answer.words buffer
  pub long : length o.buffer ≡ length buffer

pub counts_refused : (f : Refusal) (image buffer : List ℕ) → f.word ≤ 4098 → Counts (refuse f image buffer) buffer
counts_refused f image buffer h =
    record { position = h; commands = omega arith; records = omega arith; words = refl; fits = omega arith; behind = refl; long = refl }

module _ (ws image buffer : List ℕ) where
  counts_fitting : (small : Bool) (cs : List Command) → parse image ws ≡ accepted cs → ltb (room buffer) (length (records 0 cs)) ≡ small
      → Counts (fitting small ws image buffer (accept ws cs (record_words (records 0 cs)) (final image cs) buffer)) buffer
  counts_fitting true cs e t = counts_refused (refusal 11 (length ws)) image buffer (omega (arith, (parse-accepted image ws cs e).few))
  counts_fitting false cs e t =
      let a = parse-accepted image ws cs e in
      let out : List ℕ = record_words (records 0 cs) in
      let few = records-few 0 cs in
      let size = length-record_words (records 0 cs) in
      let room-is = ltb-false (room buffer) (length (records 0 cs)) t in
      record {
        position = omega (arith, a.few);
        commands = omega (arith, few, ap length a.parses.words_are, a.few);
        records = omega (arith, few, ap length a.parses.words_are, a.few);
        words = size;
        fits = omega (arith, size, room-is);
        behind = drop_at out (drop (length out) buffer) (length out) refl;
        long = omega (arith, length-append out (drop (length out) buffer), length-drop (length out) buffer, size, room-is);
      }

  counts_parsed : (x : Parsed) → parse image ws ≡ x → RefusesList 4098 x → Counts (read_parsed ws image buffer x) buffer
  counts_parsed (refused f) e r = counts_refused f image buffer r.near
  counts_parsed (accepted cs) e r = counts_fitting (ltb (room buffer) (length (records 0 cs))) cs e refl

  pub reading_counts : Counts (reading ws image buffer) buffer
  unfolding reading
  reading_counts = counts_parsed (parse image ws) refl (parse-refuses image ws)
