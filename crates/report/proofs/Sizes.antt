-- How much the reader writes, and how long a listing can be.
use Prim.Native.Nat.{ℕ, suc, ◌+◌, ◌*◌, ◌/◌, ◌%◌, ◌≤◌}
use native.Mathlib.Omega.{arith}
use mathlib.Core.Path.{◌≡◌}
use mathlib.Core.Bool.{Bool, true, false, cond}
use mathlib.Core.List.{List, [], ◌∷◌, ◌++◌}
use lib.Dec.{eqb, ltb}
use lib.ListN.{length, length-append}
use Rattle.rules.specs.Verdict.{Answer}
use Rattle.rules.specs.Verdict.{Refusal}
use Rattle.rules.specs.Values.{refusal}
use Rattle.rules.specs.Table.{is_setting}
use Rattle.rules.specs.Command.{Command, words_all}
use Rattle.rules.specs.Walk.{accepted, parse}
use Rattle.rules.specs.Image.{final}
use Rattle.rules.specs.Records.{Record, records, record_words}
use Rattle.rules.specs.Answer.{Outcome, refuse, accept, reading}
use Rattle.theory.proofs.Verdict.{written-accept}
use Rattle.theory.proofs.Reading.{reading-cases}
use Rattle.theory.proofs.Parse.{parse-accepted}
use Rattle.endian.specs.Words.{chunks, words_of}
use Rattle.text.specs.Text.{ascii}
use Rattle.text.proofs.Numbers.{length-cond}
use Rattle.lines.specs.Lines.{line, counts_line, refused_line}
use Rattle.report.specs.Listing.{read_bytes, listed, text_of, printed}
use Rattle.lines.proofs.Lengths.{counts_length, refused-length, line-length}

-- ---- the text

-- the records of some commands take at most twenty bytes for each word of the commands
lines-length : (p : ℕ) (cs : List Command) → p + length (words_all cs) ≤ 4096 → length (chunks line (record_words (records p cs))) ≤ 20 * length (words_all cs)
lines-length p [] h = omega arith
lines-length p (c ∷ cs) h =
    let n : ℕ = suc (length c.rest) in
    let rs : List Record = records (p + n) cs in
    let all : length (words_all (c ∷ cs)) ≡ n + length (words_all cs) = omega (arith, length-append c.rest (words_all cs)) in
    let later : length (chunks line (record_words rs)) ≤ 20 * length (words_all cs) = lines-length (p + n) cs (omega arith) in
    let own : length (line c.row.id p n c.header) ≤ 20 = line-length c.row.id p n c.header (omega arith) (omega arith) in
    (elim (is_setting c.row.kind) as (λ t. length (chunks line (record_words (cond t rs
    (record { id = c.row.id; position = p; size = n; header = c.header } ∷ rs)))) ≤ 20 * length (words_all (c ∷ cs))) [
      | true ↦ omega arith
      | false ↦ omega (arith, length-append (line c.row.id p n c.header) (chunks line (record_words rs)))
    ])

listed-length : (a : Answer) (ws : List ℕ) (m : ℕ) → length (chunks line ws) ≤ m → length (listed a ws) ≤ 83 + m
unfolding listed
listed-length a ws m h =
    let counts : List ℕ = counts_line a.commands a.records in
    length-cond (eqb a.verdict 0) (ascii "at id words head\n" ++ (chunks line ws ++ counts)) (refused_line a.verdict a.position) (83 + m)
    (omega (arith, length-append (chunks line ws) counts, counts_length a.commands a.records))
    (omega (arith, refused-length a.verdict a.position))

refuse-length : (f : Refusal) (image buffer : List ℕ) → length (text_of (refuse f image buffer)) ≤ 82003
refuse-length f image buffer = omega (arith, listed-length (refuse f image buffer).answer [] 0 (omega arith))

module _ (ws image buffer : List ℕ) where
  accept-length : (cs : List Command) → parse image ws ≡ accepted cs
      → length (text_of (accept ws cs (record_words (records 0 cs)) (final image cs) buffer)) ≤ 82003
  accept-length cs e =
      let out : List ℕ = record_words (records 0 cs) in
      let o : Outcome = accept ws cs out (final image cs) buffer in
      let a = parse-accepted image ws cs e in
      let few : length (words_all cs) ≤ 4096 = rw a.parses.words_are at a.few in
      let lines : length (chunks line out) ≤ 81920 = omega (arith, lines-length 0 cs (omega arith)) in
      rw (written-accept ws cs out (final image cs) buffer) (omega (arith, listed-length o.answer out 81920 lines))

  pub reading-length : length (text_of (reading ws image buffer)) ≤ 82003
  reading-length = reading-cases ws image buffer (λ o. length (text_of o) ≤ 82003) (λ f. refuse-length f image buffer) accept-length

pub reading-few : (ws image buffer : List ℕ) {o : Outcome} → o ≡ reading ws image buffer → length (text_of o) ≤ 82003
reading-few ws image buffer e = rw e (reading-length ws image buffer)

-- no listing is longer
pub printed-length : (input image records text : List ℕ) → (printed input image records text).size ≤ 82003
unfolding printed read_bytes
printed-length input image records text =
    by_size (ltb 16384 (length input)) (eqb (length input % 4) 0)
  where
    by_size : (over whole : Bool) → length (text_of (cond over (refuse (refusal 1 4096) image records)
        (cond whole (reading (words_of input) image records) (refuse (refusal 12 (length input / 4)) image records)))) ≤ 82003
    by_size true whole = refuse-length (refusal 1 4096) image records
    by_size false true = reading-length (words_of input) image records
    by_size false false = refuse-length (refusal 12 (length input / 4)) image records
