-- The listing, from what the parts of the program give.
use Prim.Native.Nat.{ℕ, ◌/◌, ◌%◌, ◌≤◌, ◌<◌}
use native.Mathlib.Omega.{arith}
use mathlib.Core.Path.{◌≡◌, ap, ap₂}
use mathlib.Core.List.{List, ◌++◌}
use borrow.Author.Tests.{lt-ltb, le-ltb, eq-eqb, ne_eqb}
use lib.ListN.{length}
use lib.Seq.{sets}
use Rattle.rules.specs.Verdict.{Answer}
use Rattle.rules.specs.Answer.{Outcome, reading}
use Rattle.endian.specs.Words.{chunks, words_of}
use Rattle.text.specs.Text.{ascii}
use Rattle.text.specs.Puts.{Puts}
use Rattle.lines.specs.Lines.{line, counts_line, refused_line}
use Rattle.report.specs.Listing.{read_bytes, words_read, listed, text_of, Printed, printing, printed}
use Rattle.report.specs.Prints.{Prints}
use Rattle.report.proofs.Sizes.{printed-length}

module _ (a : Answer) (ws : List ℕ) where
  pub listed-refused : (a.verdict ≡ 0 → ⊥) → listed a ws ≡ refused_line a.verdict a.position
  unfolding listed
  listed-refused h = rw (ne_eqb a.verdict 0 h)

  pub listed-accepted : a.verdict ≡ 0
      → listed a ws ≡ ascii "at id words head\n"
      ++ (chunks line ws ++ counts_line a.commands a.records)
  unfolding listed
  listed-accepted h = rw (eq-eqb a.verdict 0 h)

pub listed-is : {o p : Outcome} {t u : List ℕ} {n : ℕ} → o ≡ p → Puts (text_of o) t 0 u n → Prints p o.image o.buffer t u n
listed-is e h = record { image-is = ap (λ (x : Outcome). x.image) e; records_is = ap (λ (x : Outcome). x.buffer) e; puts = rw e at h }

module _ (input words image records text : List ℕ) where
  -- what a call leaves: the words, what is printed, and that this is short
  leaves : {ws : List ℕ} {x : Printed} → ws ≡ sets words 0 (words_read input) → x ≡ printed input image records text
      → (ws ≡ sets words 0 (words_read input)) × ((x ≡ printed input image records text) × (x.size ≤ 82003))
  leaves w e = (w, (e, rw e (printed-length input image records text)))

  refused-is : {part u : List ℕ} {n : ℕ} → Puts part text 0 u n → printing n image records u ≡ printing (length part) image records (sets text 0 part)
  refused-is p = ap₂ {C = Printed} (λ k t. printing k image records t) (omega (arith, p.next-is)) p.text-is

  pub printed_over : {u : List ℕ} {n : ℕ} → 16384 < length input → Puts (refused_line 1 4096) text 0 u n
      → (words ≡ sets words 0 (words_read input)) × ((printing n image records u ≡ printed input image records text) × (n ≤ 82003))
  unfolding printed read_bytes words_read listed
  printed_over h p = leaves (rw (lt-ltb 16384 (length input) h)) (rw (lt-ltb 16384 (length input) h) (refused-is p))

  pub printed_uneven : {u : List ℕ} {n : ℕ} → length input ≤ 16384 → (length input % 4 ≡ 0 → ⊥) → Puts (refused_line 12 (length input / 4)) text 0 u n
      → (words ≡ sets words 0 (words_read input)) × ((printing n image records u ≡ printed input image records text) × (n ≤ 82003))
  unfolding printed read_bytes words_read listed
  printed_uneven h g p =
      leaves (rw (le-ltb 16384 (length input) h, ne_eqb (length input % 4) 0 g)) (rw (le-ltb 16384 (length input) h, ne_eqb (length input % 4) 0 g) (refused-is p))

  pub printed-whole : {im rs u : List ℕ} {n : ℕ} → length input ≤ 16384 → length input % 4 ≡ 0 → Prints (reading (words_of input) image records) im rs text u n
      → (sets words 0 (words_of input) ≡ sets words 0 (words_read input)) × ((printing n im rs u ≡ printed input image records text) × (n ≤ 82003))
  unfolding printed read_bytes words_read
  printed-whole {n = n} h g l =
      let s : n ≡ length (text_of (reading (words_of input) image records)) = omega (arith, l.puts.next-is) in
      leaves (rw (le-ltb 16384 (length input) h, eq-eqb (length input % 4) 0 g))
      (rw (le-ltb 16384 (length input) h, eq-eqb (length input % 4) 0 g, s, l.image-is, l.records_is, l.puts.text-is))
