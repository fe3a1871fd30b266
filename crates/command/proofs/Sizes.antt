-- The words of a command, payload included, by its own words: for every id.
use Prim.Native.Nat.{ℕ, zero, suc, ◌+◌, ◌*◌, ◌/◌, ◌%◌, ◌^◌, ◌≤◌, ◌<◌}
use native.Mathlib.Omega.{arith}
use mathlib.Core.Path.{◌≡◌, refl, ap, sym, ◌∙◌}
use mathlib.Core.Bool.{Bool, true, false, cond}
use mathlib.Core.List.{List, []}
use mathlib.Core.Option.{Option, none, some}
use lib.Dec.{eqb}
use borrow.Author.Tests.{ne_eqb}
use lib.ListN.{length, get_or, take, drop, length-take, get_or-eq_default}
use lib.Seq.{get_or-take, get_or-drop}
use Rattle.rules.specs.Word.{id_of, header_of}
use Rattle.rules.specs.Table.{Row, row_of}
use Rattle.rules.specs.Command.{payload, rest_size, size_of, command_size}
use Rattle.table.specs.Ids.{of_row, is_group, group_id}
use Rattle.table.specs.Tables.{more, row_at, group_at}
use Rattle.table.proofs.Tables.{Known, ruled, known-row}
use Rattle.command.specs.View.{size_at}

-- ---- the payload

-- it goes by the words that there are, and takes others for zero
payload-own : (id h : ℕ) (us ws : List ℕ) → ((k : ℕ) → get_or us k 0 ≡ get_or ws k 0) → payload id h us ≡ payload id h ws
unfolding payload
payload-own id h us ws e = refl

few : (id h : ℕ) (own : List ℕ) → payload id h own ≤ 2044
unfolding payload
few id h own = elim (eqb id 0x40) as (λ t. cond t (4 * (h / 2 ^ 0 % 2 ^ 9)) 0 ≤ 2044) [ true ↦ omega arith | false ↦ omega arith ]

pub payload-few : (n id h : ℕ) (own : List ℕ) → n ≡ payload id h own → n ≤ 2044
payload-few n id h own e = omega (arith, few id h own)

-- a load has it alone
pub no_payload : (id h : ℕ) (own : List ℕ) → (id ≡ 0x40 → ⊥) → payload id h own ≡ 0
unfolding payload
no_payload id h own n = rw (ne_eqb id 0x40 n)

-- a command with rules on its values has four words, so one of one word is no load
no_load : (id : ℕ) → ruled id ≡ false → id ≡ 0x40 → ⊥
no_load id r e =
    let z : ◌≡◌ {A = Bool} true false = ap ruled (sym e) ∙ r in
    let y : ◌≡◌ {A = ℕ} 0 1 = cc in
    omega arith

-- ---- a group, and any other

module _ (id : ℕ) (small : id < 256) (h : ℕ) (ws : List ℕ) where
  known-size : Known id → size_of h ws (row_of id) ≡ suc (rest_size (row_at id) h ws)
  known-size k = ap (size_of h ws) k.found

  by_group : (o : Option Row) → row_of id ≡ o → of_row is_group o ≡ true → Known id
  by_group none e g = let z : ◌≡◌ {A = Bool} false true = g in let y : ◌≡◌ {A = ℕ} 0 1 = cc in absurd (omega arith)
  by_group (some r) e g = known-row id small r e

  pub group-size : group_id id ≡ true → size_of h ws (row_of id) ≡ 4 + payload id h (take 3 ws)
  unfolding group_id
  group-size g =
      let k = by_group (row_of id) refl g in
      let n : length (row_at id).more ≡ 3 = k.length_more ∙ ap (λ (b : Bool). cond b 3 0) g in
      known-size k ∙ rw (n, k.own-id) (omega arith)

  by_single : (o : Option Row) → row_of id ≡ o → group_id id ≡ false → size_of h ws (row_of id) ≡ 1
  by_single none e g = ap (size_of h ws) e
  by_single (some r) e g =
      let k = known-row id small r e in
      let n : length (row_at id).more ≡ 0 = k.length_more ∙ ap (λ (b : Bool). cond b 3 0) g in
      known-size k ∙ rw (n, k.own-id, no_payload id h [] (no_load id (k.one_word g)))

  pub single-size : group_id id ≡ false → size_of h ws (row_of id) ≡ 1
  single-size g = by_single (row_of id) refl g

-- only the three words behind the first say how many there are
size-own : (id : ℕ) → id < 256 → (h : ℕ) (us ws : List ℕ) → ((k : ℕ) → get_or (take 3 us) k 0 ≡ get_or (take 3 ws) k 0) → size_of h us (row_of id) ≡ size_of h ws (row_of id)
size-own id small h us ws e =
    (elim (group_id id) as (λ t. group_id id ≡ t → size_of h us (row_of id) ≡ size_of h ws (row_of id)) [
      | true ↦ λ g. group-size id small h us g ∙ ap (λ (n : ℕ). 4 + n) (payload-own id h (take 3 us) (take 3 ws) e) ∙ sym (group-size id small h ws g)
      | false ↦ λ g. single-size id small h us g ∙ sym (single-size id small h ws g)
    ]) refl

-- ---- at a position of a list

words-behind : (l : List ℕ) (at k : ℕ) → get_or (take 3 (drop (suc at) l)) k 0 ≡ get_or (more (group_at l at)) k 0
words-behind l at zero = get_or-take 3 (drop (suc at) l) 0 0 (omega arith) ∙ get_or-drop (suc at) l 0 0 ∙ ap (λ (i : ℕ). get_or l i 0) (omega arith)
words-behind l at (suc zero) = get_or-take 3 (drop (suc at) l) 1 0 (omega arith) ∙ get_or-drop (suc at) l 1 0 ∙ ap (λ (i : ℕ). get_or l i 0) (omega arith)
words-behind l at (suc (suc zero)) = get_or-take 3 (drop (suc at) l) 2 0 (omega arith) ∙ get_or-drop (suc at) l 2 0 ∙ ap (λ (i : ℕ). get_or l i 0) (omega arith)
words-behind l at (suc (suc (suc k))) = get_or-eq_default (take 3 (drop (suc at) l)) 0 (omega (arith, length-take 3 (drop (suc at) l)))

module _ (l : List ℕ) (at id : ℕ) (ei : id ≡ id_of (get_or l at 0)) (small : id < 256) where
  pub size-known : Known id → size_at l at ≡ suc (rest_size (row_at id) (header_of (get_or l at 0)) (drop (suc at) l))
  unfolding command_size
  size-known k = rw (← ei, k.found)

  pub size_at_lem : size_at l at ≡ size_of (header_of (get_or l at 0)) (more (group_at l at)) (row_of id)
  unfolding command_size
  size_at_lem = rw (← ei) (size-own id small (header_of (get_or l at 0)) (drop (suc at) l) (more (group_at l at)) (words-behind l at))

  pub size-group : group_id id ≡ true → size_at l at ≡ 4 + payload id (header_of (get_or l at 0)) (more (group_at l at))
  size-group g = size_at_lem ∙ group-size id small (header_of (get_or l at 0)) (more (group_at l at)) g

  pub size-single : group_id id ≡ false → size_at l at ≡ 1
  size-single g = size_at_lem ∙ single-size id small (header_of (get_or l at 0)) (more (group_at l at)) g

-- a command has a word
some_size : (h : ℕ) (ws : List ℕ) (x : Option Row) → 0 < size_of h ws x
some_size h ws none = omega arith
some_size h ws (some r) = omega arith

pub size-pos : (l : List ℕ) (at n : ℕ) → n ≡ size_at l at → 0 < n
unfolding command_size
size-pos l at n e = rw e (some_size (header_of (get_or l at 0)) (drop (suc at) l) (row_of (id_of (get_or l at 0))))
