-- How long the lines of a refusal are.
use Prim.Native.Nat.{ℕ, ◌*◌, ◌/◌, ◌%◌, ◌≤◌}
use native.Mathlib.Omega.{arith}
use mathlib.Core.Path.{◌≡◌, refl}
use mathlib.Core.Bool.{true, cond}
use mathlib.Core.List.{List, [], ◌∷◌}
use lib.Dec.{eqb, ltb}
use lib.ListN.{length, get_or, length-append}
use Rattle.rules.specs.Verdict.{Answer}
use Rattle.rules.specs.Word.{id_of}
use Rattle.text.specs.Text.{ascii, digit}
use Rattle.text.proofs.Numbers.{length-cond}
use Rattle.format.specs.Format.{line_of, formatted}
use Rattle.format.proofs.Lengths.{narrow, row-length, formatted-length}
use Rattle.names.specs.Names.{commands, refusals, refusal_row}
use Rattle.lines.specs.Lines.{counts_line}
use Rattle.lines.proofs.Lengths.{counts_length, refused-length}
use Rattle.rules.specs.Place.{start_of}
use Rattle.verdict.specs.Verdict.{image_line, address_line, place_lines, bit_line, refusal_text, verdict_text}

-- a name has at most 21 bytes with its id, and the row of a refusal 160 with its number
pub names_narrow : narrow 21 commands ≡ true
unfolding commands line_of
names_narrow = refl

refusals_narrow : narrow 160 refusals ≡ true
unfolding refusals line_of
refusals_narrow = refl

module _ (number p bit : ℕ) where
  pub image-length : (bytes : ℕ) → length (image_line number bytes) ≤ 40
  unfolding image_line
  image-length bytes =
      length-cond (eqb number 2) (formatted [] (ascii "image %d bytes\n") (bytes ∷ [])) [] 40
      (omega (arith, formatted-length [] 0 refl (ascii "image %d bytes\n") (bytes ∷ []))) (omega arith)

  pub address-length : (pairs : List ℕ) → length (address_line pairs p) ≤ 40
  unfolding address_line
  address-length pairs =
      length-cond (ltb p (length pairs / 2)) (formatted [] (ascii "address %8\n") (get_or pairs (2 * p) 0 ∷ [])) [] 40
      (omega (arith, formatted-length [] 0 refl (ascii "address %8\n") (get_or pairs (2 * p) 0 ∷ []))) (omega arith)

  pub place-length : (ws : List ℕ) → length (place_lines ws p) ≤ 200
  unfolding place_lines
  place-length ws =
      let start : ℕ = start_of ws p in
      let id : ℕ = id_of (get_or ws start 0) in
      let ns : List ℕ = get_or ws p 0 ∷ id ∷ id ∷ start ∷ [] in
      length-cond (ltb p (length ws)) (formatted commands (ascii "word %8\ncommand %2%n at %d\n") ns) [] 200
      (omega (arith, formatted-length commands 21 names_narrow (ascii "word %8\ncommand %2%n at %d\n") ns)) (omega arith)

  pub bit_length : length (bit_line bit) ≤ 40
  unfolding bit_line
  bit_length =
      length-cond (eqb bit 32) [] (formatted [] (ascii "bit %d\n") (bit ∷ [])) 40
      (omega arith) (omega (arith, formatted-length [] 0 refl (ascii "bit %d\n") (bit ∷ [])))

  row-bound : length (refusal_row number) ≤ 160
  row-bound = row-length 160 (cond (ltb number 10) 0x20 (digit (number / 10 % 10))) (digit (number % 10)) true refusals refusals_narrow

pub refusal-length : (a : Answer) (ws pairs : List ℕ) (bytes : ℕ) → length (refusal_text a ws pairs bytes) ≤ 540
unfolding refusal_text
refusal-length a ws pairs bytes =
    let n : ℕ = a.verdict in
    let p : ℕ = a.position in
    simp length-append
    (omega (arith, refused-length n p, image-length n p 0 bytes, address-length n p 0 pairs, place-length n p 0 ws, bit_length n p a.bit, row-bound n p 0))

pub verdict-length : (a : Answer) (ws pairs : List ℕ) (bytes : ℕ) → length (verdict_text a ws pairs bytes) ≤ 540
unfolding verdict_text
verdict-length a ws pairs bytes =
    length-cond (eqb a.verdict 0) (counts_line a.commands a.records) (refusal_text a ws pairs bytes) 540
    (omega (arith, counts_length a.commands a.records)) (refusal-length a ws pairs bytes)
