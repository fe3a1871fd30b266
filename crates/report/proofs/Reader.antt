-- What a listing says of a list: its refusal, or a line for each record. Refusal 11 is never given.
use Prim.Native.Nat.{ℕ, ◌%◌, ◌≤◌}
use native.Mathlib.Omega.{arith}
use mathlib.Core.Path.{◌≡◌, refl, ap, ◌∙◌}
use mathlib.Core.List.{List, [], ◌∷◌, ◌++◌}
use borrow.Author.Tests.{le-ltb, eq-eqb}
use lib.ListN.{length}
use Rattle.rules.specs.Verdict.{Refusal}
use Rattle.rules.specs.Command.{Command}
use Rattle.rules.specs.Walk.{refused, accepted, parse}
use Rattle.rules.specs.Image.{final}
use Rattle.rules.specs.Records.{Record, records, record_words}
use Rattle.rules.specs.Answer.{room, read_parsed, reading}
use Rattle.theory.proofs.Numbers.{Proper, not-zero, parse-refuses}
use Rattle.theory.proofs.Records.{records-few}
use Rattle.theory.proofs.Verdict.{reads, written-accept}
use Rattle.theory.proofs.Parse.{parse-accepted}
use Rattle.endian.specs.Words.{chunks, words_of}
use Rattle.text.specs.Text.{ascii}
use Rattle.lines.specs.Lines.{line, counts_line, refused_line}
use Rattle.report.specs.Listing.{read_bytes, text_of}
use Rattle.report.proofs.Printed.{listed-refused, listed-accepted}

abbrev pub record_lines : List Record → List ℕ
record_lines [] = []
record_lines (r ∷ rs) = line r.id r.position r.size r.header ++ record_lines rs

lines_are : (rs : List Record) → chunks line (record_words rs) ≡ record_lines rs
lines_are [] = refl
lines_are (r ∷ rs) = ap (λ (l : List ℕ). line r.id r.position r.size r.header ++ l) (lines_are rs)

module _ (input image buffer : List ℕ) (few : length input ≤ 16384) (even : length input % 4 ≡ 0) where
  read_is : read_bytes input image buffer ≡ reading (words_of input) image buffer
  unfolding read_bytes
  read_is = rw (le-ltb 16384 (length input) few, eq-eqb (length input % 4) 0 even)

  pub refused-text : (f : Refusal) → parse image (words_of input) ≡ refused f
      → text_of (read_bytes input image buffer) ≡ refused_line f.number f.word
  unfolding reading
  refused-text f e =
      let p : Proper 4098 f = rw e at (parse-refuses image (words_of input)) in
      ap text_of (read_is ∙ ap (read_parsed (words_of input) image buffer) e) ∙ listed-refused _ _ (not-zero p)

  pub accepted-text : (cs : List Command) → parse image (words_of input) ≡ accepted cs → 16384 ≤ length buffer
      → text_of (read_bytes input image buffer) ≡ ascii "at id words head\n"
      ++ (record_lines (records 0 cs) ++ counts_line (length cs) (length (records 0 cs)))
  accepted-text cs e h =
      let ws : List ℕ = words_of input in
      let a = parse-accepted image ws cs e in
      let fits : length (records 0 cs) ≤ room buffer = omega (arith, a.few, ap length a.parses.words_are, records-few 0 cs) in
      let r = reads image ws buffer cs e fits in
      ap text_of (read_is ∙ r.is)
      ∙ rw (written-accept ws cs (record_words (records 0 cs)) (final image cs) buffer) (listed-accepted _ _ refl ∙ rw (lines_are (records 0 cs)))
