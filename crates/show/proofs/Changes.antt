-- The settings that change, one by one.
use Prim.Native.Nat.{ℕ, zero, suc, ◌+◌, ◌-◌, ◌≤◌, ◌<◌}
use native.Mathlib.Omega.{arith}
use native.Mathlib.Numerals.{add-one}
use native.Mathlib.Nat.{zero-add}
use mathlib.Core.Path.{◌≡◌, refl, ap}
use mathlib.Core.Bool.{Bool, true, false, cond, ◌&&◌}
use mathlib.Core.List.{List, [], ◌∷◌, ◌++◌}
use lib.Dec.{eqb, leb}
use lib.ListN.{length, get_or, take, drop}
use lib.Seq.{drop-cons}
use borrow.Author.Tests.{leb-true}
use Rattle.rules.specs.Table.{table, row_of, settings}
use Rattle.rules.specs.Form.{read, equal}
use lib.Pointwise.{pointwise}
use Rattle.text.specs.Text.{ascii}
use Rattle.format.specs.Format.{formatted}
use Rattle.names.specs.Names.{commands}
use Rattle.table.specs.Ids.{setting_id, group_id, setting_kind}
use Rattle.table.proofs.Tables.{every, every-from}
use Rattle.show.specs.Show.{words_text, setting_line, change_line, change_lines}
use Rattle.show.specs.Changes.{id_line, lines_from}

-- the words of an image from one on, as a slice has them
read-is : (image : List ℕ) (i n : ℕ) → i + n ≤ length image → read image i n ≡ take n (drop i image)
read-is image i zero h = refl
read-is image i (suc n) h =
    rw (drop-cons image i 0 (omega arith))
    (ap (λ (ws : List ℕ). get_or image i 0 ∷ ws) (read-is image (suc i) n (omega arith)))

equal-is : (a b : List ℕ) → equal a b ≡ pointwise eqb a b
equal-is [] [] = refl
equal-is [] (y ∷ ys) = refl
equal-is (x ∷ xs) [] = refl
equal-is (x ∷ xs) (y ∷ ys) = ap (λ t. eqb x y && t) (equal-is xs ys)

module _ (id size : ℕ) (before after : List ℕ) (h : id + size ≤ length before) (k : id + size ≤ length after) where
  abbrev part : List ℕ → List ℕ
  part image = take (id + size - id) (drop id image)

  read-part : (image : List ℕ) → id + size ≤ length image → read image id size ≡ part image
  read-part image l = let e : id + size - id ≡ size = omega arith in rw e (read-is image id size l)

  equal-parts : equal (read before id size) (read after id size) ≡ pointwise eqb (part before) (part after)
  equal-parts = rw (read-part before h, read-part after k) (equal-is (part before) (part after))

  pub change_none : true ≡ pointwise eqb (part before) (part after) → change_line id size before after ≡ []
  unfolding change_line
  change_none e = rw (equal-parts, ← e)

  pub change_some : false ≡ pointwise eqb (part before) (part after)
      → change_line id size before after
      ≡ formatted commands (ascii "%2%n") (id ∷ id ∷ [])
      ++ (words_text (part before) ++ (ascii " ->" ++ (words_text (part after) ++ ascii "\n")))
  unfolding change_line setting_line
  change_some e = rw (equal-parts, ← e, read-part before h, read-part after k)

-- an image has room for each setting of four words
has_room : ℕ → Bool
unfolding setting_kind setting_id group_id row_of table
has_room id = cond (eqb (setting_kind id) 2) (leb (id + 4) 256) true

all-room : every 256 0 has_room ≡ true
unfolding has_room
all-room = refl

pub group-room : (id : ℕ) → id < 256 → setting_kind id ≡ 2 → id + 4 ≤ 256
unfolding has_room
group-room id h e =
    let t = every-from 256 0 has_room all-room id h in
    leb-true (id + 4) 256 (rw (e) at (rw (zero-add id) at t))

module _ (before after : List ℕ) where
  pub lines_more : (id : ℕ) → id < 256
      → lines_from (256 - id) id before after ≡ id_line id before after ++ lines_from (256 - (id + 1)) (id + 1) before after
  unfolding lines_from
  lines_more id h =
      let e : 256 - id ≡ suc (256 - (id + 1)) = omega arith in
      rw (e, add-one id)

  -- all ids: the settings of the table
  pub lines-all : lines_from 256 0 before after ≡ change_lines settings before after
  unfolding lines_from id_line setting_kind setting_id group_id row_of table change_lines settings
  lines-all = refl
