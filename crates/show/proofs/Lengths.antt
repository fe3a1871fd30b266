-- How long the lines are.
use Prim.Native.Nat.{ℕ, zero, suc, ◌*◌, ◌/◌, ◌%◌, ◌≤◌}
use native.Mathlib.Omega.{arith}
use mathlib.Core.Path.{◌≡◌, refl, ap}
use mathlib.Core.Bool.{true}
use mathlib.Core.List.{List, [], ◌∷◌}
use lib.Dec.{leb}
use borrow.Author.Tests.{leb-true}
use lib.ListN.{length, get_or, length-append}
use lib.Seq.{length-take-le}
use Rattle.rules.specs.Verdict.{Answer}
use Rattle.rules.specs.Table.{Row, table, size, settings}
use Rattle.rules.specs.Form.{read, equal}
use Rattle.rules.specs.Records.{records}
use Rattle.rules.specs.Answer.{Outcome, reading, written}
use Rattle.theory.proofs.Bools.{and_left, and_right}
use Rattle.theory.proofs.Rows.{every_row}
use Rattle.theory.proofs.Parse.{parse-accepted}
use Rattle.theory.proofs.Records.{records-few}
use Rattle.theory.proofs.Verdict.{length-record_words}
use Rattle.theory.proofs.Reading.{reading-cases, reading-words}
use Rattle.text.specs.Text.{ascii, digit}
use Rattle.text.proofs.Numbers.{length-cond, hex-length, decimal-length}
use Rattle.format.specs.Format.{formatted}
use Rattle.format.proofs.Lengths.{row-length, formatted-length}
use Rattle.names.specs.Names.{commands}
use Rattle.lines.specs.Lines.{record_line}
use Rattle.lines.proofs.Lengths.{counts_length}
use Rattle.verdict.proofs.Lengths.{names_narrow}
use Rattle.show.specs.Show.{words_text, setting_line, change_line, change_lines, sets_text, work_lines, draws_text, accepted_text}

-- ---- how long

words-length : (image : List ℕ) (i n : ℕ) → length (words_text (read image i n)) ≤ 23 * n
unfolding words_text
words-length image i zero = omega arith
words-length image i (suc n) =
    let w : List ℕ = get_or image i 0 ∷ [] in
    omega (arith, length-append (formatted [] (ascii " %8") w) (words_text (read image (suc i) n)), formatted-length [] 0 refl (ascii " %8") w, words-length image (suc i) n)

module _ (before after : List ℕ) where
  change_length : (id size : ℕ) → size ≤ 4 → length (change_line id size before after) ≤ 280
  unfolding change_line setting_line
  change_length id size h =
      let name : List ℕ = formatted commands (ascii "%2%n") (id ∷ id ∷ []) in
      length-cond (equal (read before id size) (read after id size)) [] _ 280 (omega arith)
      (simp length-append (omega (arith, formatted-length commands 21 names_narrow (ascii "%2%n") (id ∷ id ∷ []), words-length before id size, words-length after id size)))

  rows-length : (rs : List Row) → every_row (λ r. leb (size r) 4) rs ≡ true → length (change_lines rs before after) ≤ 280 * length rs
  unfolding change_lines
  rows-length [] t = omega arith
  rows-length (r ∷ rs) t =
      let h = leb-true (size r) 4 (and_left (leb (size r) 4) _ t) in
      omega (arith, length-append (change_line r.id (size r) before after) (change_lines rs before after), change_length r.id (size r) h, rows-length rs (and_right (leb (size r) 4) _ t))

  -- with room for some twenty settings more
  pub sets_length : length (sets_text before after) ≤ 8192
  unfolding sets_text settings table
  sets_length = simp length-append (omega (arith, rows-length settings refl))

work-length : (id p n h : ℕ) → length (record_line commands (ascii "%d %2 %d %6%n\n") id p n h) ≤ 73
unfolding formatted
work-length id p n h =
    simp (length-append, hex-length)
    (omega (arith, decimal-length p, decimal-length n, row-length 21 (digit (id / 16 % 16)) (digit (id % 16)) true commands names_narrow))

works-length : (ws : List ℕ) → 4 * length (work_lines ws) ≤ 73 * length ws
works-length [] = omega arith
works-length (a ∷ []) = omega arith
works-length (a ∷ b ∷ []) = omega arith
works-length (a ∷ b ∷ c ∷ []) = omega arith
works-length (a ∷ b ∷ c ∷ d ∷ ws) =
    omega (arith, length-append (record_line commands (ascii "%d %2 %d %6%n\n") a b c d) (work_lines ws), work-length a b c d, works-length ws)

module _ (records : List ℕ) (few : length records ≤ 16384) where
  pub draws_length : length (draws_text records) ≤ 299040
  unfolding draws_text
  draws_length = omega (arith, works-length records, few)

  pub accepted-length : (a : Answer) (before after : List ℕ) (form : ℕ) → length (accepted_text a before after records form) ≤ 310000
  unfolding accepted_text
  accepted-length a before after form =
      simp length-append
      (omega (arith, counts_length a.commands a.records, sets_length before after, draws_length, formatted-length [] 0 refl (ascii "words %d normal form %d\n") (a.position ∷ form ∷ [])))

-- no list has more records than words
reading-few : (ws image buffer : List ℕ) (o : Outcome) → o ≡ reading ws image buffer → o.answer.words ≤ 16384
reading-few ws image buffer o e =
    rw e
    (reading-cases ws image buffer (λ p. p.answer.words ≤ 16384) (λ f. omega arith)
    (λ cs a.
    let p = parse-accepted image ws cs a in
    omega (arith, p.few, ap length p.parses.words_are, records-few 0 cs, length-record_words (records 0 cs))))

pub written-few : (ws image buffer : List ℕ) (o : Outcome) → o ≡ reading ws image buffer → length (written o) ≤ 16384
written-few ws image buffer o e =
    omega (arith, length-take-le o.answer.words o.buffer (reading-words ws image buffer o e), reading-few ws image buffer o e)
