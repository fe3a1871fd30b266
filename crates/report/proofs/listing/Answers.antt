use mathlib.Core.Path.{◌≡◌}
use mathlib.Core.List.{List, []}
use borrow.Author.Tests.{lt-ltb, le-ltb, ne_eqb}
use Prim.Native.Nat.{ℕ, ◌%◌}
use Rattle.text.specs.Puts.{Puts}
use Rattle.lines.specs.Lines.{refused_line}
use Rattle.lines.proofs.Lengths.{refused-length}
use Rattle.report.specs.Listing.{words_read, printing, printed}
use borrow.Author.Rules.{rules}
use lib.Seq.{sets, length-sets}
use Rattle.endian.specs.Words.{words_of}
use Prim.Native.Nat.{◌/◌, ◌≤◌, ◌<◌}
use native.Mathlib.Omega.{arith}
use mathlib.Core.Path.{ap, ◌∙◌}
use lib.ListN.{length, take}
use Rattle.endian.proofs.Words.{words_front}
use Rattle.report.proofs.Printed.{printed_over, printed_uneven, printed-whole}
use Rattle.report.proofs.listing.Goals as goal

-- Where the bytes are refused, the text that is put is looked for among what the calls promise, by what it has to be.
module _ (input image records text : List ℕ) {n : ℕ} {u : List ℕ} where
  text_over : 16384 < length input → Puts (refused_line 1 4096) text 0 u n → printing n image records u ≡ printed input image records text
  text_over h p = (printed_over input [] image records text h p).1.0

  text_uneven : length input ≤ 16384 → (length input % 4 ≡ 0 → ⊥) → Puts (refused_line 12 (length input / 4)) text 0 u n
      → printing n image records u ≡ printed input image records text
  text_uneven h g p = (printed_uneven input [] image records text h g p).1.0

words_over : (input words : List ℕ) → 16384 < length input → words ≡ sets words 0 (words_read input)
unfolding words_read
words_over input words h = rw (lt-ltb 16384 (length input) h)

words_uneven : (input words : List ℕ) → length input ≤ 16384 → (length input % 4 ≡ 0 → ⊥) → words ≡ sets words 0 (words_read input)
unfolding words_read
words_uneven input words h g = rw (le-ltb 16384 (length input) h, ne_eqb (length input % 4) 0 g)

pub returns-then-input-gt16384 : goal.returns-then-input-gt16384
returns-then-input-gt16384 c =
    let a = c.args in
    let over : 16384 < length a.input.now = omega arith in
    record {
      words_value = words_over a.input.now a.words.now over;
      text_value = text_over a.input.now a.image.now a.records.now a.text.now over (search rules);
      upper_bound = omega (arith, refused-length 1 4096);
    }

pub returns-then-input-ne0 : goal.returns-then-input-ne0
returns-then-input-ne0 c =
    let a = c.args in
    let few : length a.input.now ≤ 16384 = omega arith in
    record {
      words_value = words_uneven a.input.now a.words.now few c.if-input-ne0.true;
      text_value = text_uneven a.input.now a.image.now a.records.now a.text.now few c.if-input-ne0.true (search rules);
      upper_bound = omega (arith, refused-length 12 (length a.input.now / 4));
    }

pub returns : goal.returns
returns c =
    let a = c.args in
    let loaded = c.load.ensures in
    let fits : length a.input.now / 4 ≤ length a.words.now = omega (arith, ap length loaded, length-sets a.words.now 0 (words_of a.input.now)) in
    let front = ap (take (length a.input.now / 4)) loaded ∙ words_front a.input.now a.words.now fits in
    let p = printed-whole a.input.now a.words.now a.image.now a.records.now a.text.now c.if-input-gt16384.false c.if-input-ne0.false (rw front at c.put_list.ensures) in
    rw loaded (record { words_value = p.0; text_value = p.1.0; upper_bound = p.1.1 })
