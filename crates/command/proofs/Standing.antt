-- A valid command whose words stand at a position of a list.
use Prim.Native.Nat.{ℕ, suc, ◌+◌, ◌≤◌, ◌<◌}
use native.Mathlib.Numerals.{add-one}
use native.Mathlib.Nat.{add-zero}
use native.Mathlib.Omega.{arith}
use mathlib.Core.Path.{◌≡◌, refl, ap, ap₂, sym, ◌∙◌}
use mathlib.Core.List.{List, [], ◌∷◌, ◌++◌}
use lib.Pow.{high, low}
use lib.ListN.{length, get_or, drop, length-append, length-drop}
use lib.Seq.{drop-cons, drop-drop, drop_at, get_or-drop}
use Rattle.rules.specs.Word.{id_of, header_of, first_word}
use Rattle.rules.specs.Table.{row_of}
use Rattle.rules.specs.Command.{Command, words, command_size}
use Rattle.rules.specs.Valid.{Valid}
use Rattle.rules.specs.Form.{read}
use Rattle.theory.proofs.Rows.{row_small}
use Rattle.theory.proofs.Valid.{size-words, valid-taken}
use Rattle.table.specs.Tables.{row_at}
use Rattle.table.proofs.Tables.{row_is, known-row}
use Rattle.command.specs.View.{size_at}
use Rattle.command.specs.Effects.{id_at, command_at, CommandAt}

pub record Stands (l : List ℕ) (at : ℕ) (c : Command) (tail : List ℕ) : Type 0 where
  pub valid : Valid c
  pub id-is : id_at l at ≡ c.row.id
  pub row_at_lem : row_at (id_at l at) ≡ c.row
  pub size_is : size_at l at ≡ suc (length c.rest)
  pub command-is : command_at l at ≡ c
  pub own : read l at (suc (length c.rest)) ≡ words c
  pub inside : at + suc (length c.rest) ≤ length l
  pub behind : drop (at + suc (length c.rest)) l ≡ tail

-- the words at a position
read-words : (l : List ℕ) (at : ℕ) (ws tail : List ℕ) → drop at l ≡ ws ++ tail → read l at (length ws) ≡ ws
read-words l at [] tail e = refl
read-words l at (w ∷ ws) tail e =
    let first : get_or l at 0 ≡ w = rw add-zero at (sym (get_or-drop at l 0 0)) ∙ ap (λ (x : List ℕ). get_or x 0 0) e in
    let rest : drop (suc at) l ≡ ws ++ tail = rw (← add-one at) (sym (drop-drop 1 at l) ∙ ap (drop 1) e) in
    ap₂ {C = List ℕ} (λ x xs. x ∷ xs) first (read-words l (suc at) ws tail rest)

pub stands : (l : List ℕ) (at : ℕ) (c : Command) (tail : List ℕ) → at < length l → Valid c → drop at l ≡ words c ++ tail → Stands l at c tail
unfolding command_at
stands l at c tail h v e =
    let d : get_or l at 0 ∷ drop (suc at) l ≡ first_word c.row.id c.header ∷ (c.rest ++ tail) = sym (drop-cons l at 0 h) ∙ e in
    let first : get_or l at 0 ≡ first_word c.row.id c.header = cc in
    let rest : drop (suc at) l ≡ c.rest ++ tail = cc in
    let id' : id_of (get_or l at 0) ≡ c.row.id = ap id_of first ∙ high c.row.id 24 v.small in
    let header' : header_of (get_or l at 0) ≡ c.header = ap header_of first ∙ low c.row.id 24 v.small in
    let row' : row_at (id_of (get_or l at 0)) ≡ c.row = ap row_at id' ∙ row_is c.row.id c.row v.found in
    let next : at + suc (length c.rest) ≡ suc at + length c.rest = omega arith in
    record {
      valid = v;
      id-is = id';
      row_at_lem = row';
      size_is = ap₂ command_size first rest ∙ size-words c tail v;
      command-is = rw (row', header', rest) (valid-taken c tail v);
      own = read-words l at (words c) tail e;
      inside = omega (arith, length-drop (suc at) l, ap length rest, length-append c.rest tail);
      behind = ap (λ (k : ℕ). drop k l) next ∙ sym (drop-drop (length c.rest) (suc at) l)
          ∙ ap (drop (length c.rest)) rest ∙ drop_at c.rest tail (length c.rest) refl;
    }

-- a whole known command stands there
pub command_at_lem : {l : List ℕ} {at : ℕ} {c : Command} {tail : List ℕ} → length l ≤ 4096 → Stands l at c tail → CommandAt l at
command_at_lem {l} {at} {c} {tail} few s =
    let small' : id_at l at < 256 = omega (arith, s.id-is, row_small c.row.id c.row s.valid.found) in
    record {
      few = few;
      start = omega (arith, s.inside);
      small = small';
      known = (known-row (id_at l at) small' c.row (ap row_of s.id-is ∙ s.valid.found)).small;
      inside = omega (arith, s.inside, s.size_is);
    }
