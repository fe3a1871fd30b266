-- The pairs of a list: of some words, of a command, and of the commands passed.
use Prim.Native.Nat.{ℕ, zero, suc, ◌+◌, ◌*◌, ◌≤◌, ◌<◌}
use native.Mathlib.Nat.{add-zero}
use native.Mathlib.Numerals.{add-one}
use native.Mathlib.Omega.{arith}
use mathlib.Core.Path.{◌≡◌, refl, ap, ap₂, sym, ◌∙◌}
use mathlib.Core.List.{List, [], ◌∷◌, ◌++◌, append_assoc, append-nil}
use lib.Pow.{split}
use lib.ListN.{length, get_or, set, take, drop}
use lib.Seq.{sets, length-sets, drop-cons}
use Rattle.rules.specs.Word.{id_of, header_of, first_word}
use Rattle.rules.specs.Command.{Command, words, rest_size}
use Rattle.rules.specs.Walk.{accepted, parse}
use Rattle.rules.specs.Form.{read}
use Rattle.rules.specs.Pci.{address, pairs_from, command_pairs, pairs_all}
use Rattle.theory.proofs.Image.{sets_append}
use Rattle.theory.proofs.Pci.{pairs_length}
use Rattle.table.specs.Tables.{row_at}
use Rattle.table.proofs.Tables.{Known, known}
use Rattle.command.specs.View.{size_at}
use Rattle.command.proofs.Sizes.{size-known}
use Rattle.command.specs.Effects.{command_at, CommandAt}
use Rattle.command.proofs.Standing.{command_at_lem}
use Rattle.list.proofs.Position.{Position, position-start, position_end, AtCommand, after, at_command}

-- ---- of some words

-- two words for each
from-length : (id k : ℕ) (l : List ℕ) (at n : ℕ) → length (pairs_from id k (read l at n)) ≡ 2 * n
from-length id k l at zero = refl
from-length id k l at (suc n) = omega (arith, from-length id (suc k) l (suc at) n)

-- one word more is one pair more
from-add : (id k : ℕ) (l : List ℕ) (at n : ℕ)
    → pairs_from id k (read l at (suc n)) ≡ pairs_from id k (read l at n) ++ (address id (k + n) ∷ get_or l (at + n) 0 ∷ [])
from-add id k l at zero = rw (add-zero k, add-zero at)
from-add id k l at (suc n) =
    let ek : suc k + n ≡ k + suc n = omega arith in
    let ea : suc at + n ≡ at + suc n = omega arith in
    ap {B = List ℕ} (λ x. address id k ∷ get_or l at 0 ∷ x) (from-add id (suc k) l (suc at) n ∙ rw (ek, ea))

module _ (out l : List ℕ) (id at : ℕ) where
  -- a pair written behind those of the words before it
  pub pair_on : (i : ℕ)
      → set (set (sets out (2 * at) (pairs_from id 0 (read l at i))) (2 * (at + i)) (address id i)) (2 * (at + i) + 1) (get_or l (at + i) 0)
      ≡ sets out (2 * at) (pairs_from id 0 (read l at (i + 1)))
  pair_on i =
      let ps : List ℕ = pairs_from id 0 (read l at i) in
      let n : 2 * at + length ps ≡ 2 * (at + i) = omega (arith, from-length id 0 l at i) in
      let z : 0 + i ≡ i = omega arith in
      sym (ap (λ (k : ℕ). sets out (2 * at) (pairs_from id 0 (read l at k))) (add-one i)
      ∙ ap (sets out (2 * at)) (from-add id 0 l at i)
      ∙ sets_append out (2 * at) ps (address id (0 + i) ∷ get_or l (at + i) 0 ∷ []) ∙ rw (n, z, add-one))

-- ---- of a command

-- the words taken at a position are those read there
take-read : (l : List ℕ) (at n : ℕ) → at + n ≤ length l → take n (drop at l) ≡ read l at n
take-read l at zero h = refl
take-read l at (suc n) h =
    let e : drop at l ≡ get_or l at 0 ∷ drop (suc at) l = drop-cons l at 0 (omega arith) in
    ap (take (suc n)) e ∙ ap {B = List ℕ} (λ x. get_or l at 0 ∷ x) (take-read l (suc at) n (omega arith))

module _ (l : List ℕ) (at : ℕ) (h : CommandAt l at) (w : ℕ) (ew : w ≡ get_or l at 0) (id : ℕ) (iw : id ≡ id_of w) where
  ei : id ≡ id_of (get_or l at 0)
  ei = iw ∙ ap id_of ew

  small : id < 256
  small = omega (arith, ei, h.small)

  k : Known id
  k = known id small (rw ei h.known)

  -- its words are those of the list there
  command-words : words (command_at l at) ≡ read l at (size_at l at)
  unfolding command_at
  command-words =
      let n : ℕ = rest_size (row_at id) (header_of (get_or l at 0)) (drop (suc at) l) in
      let s : size_at l at ≡ suc n = size-known l at id ei small k in
      rw (← ei, s)
      (ap₂ {C = List ℕ} (λ x xs. x ∷ xs) (ap (λ (i : ℕ). first_word i (header_of (get_or l at 0))) (k.own-id ∙ ei) ∙ split (get_or l at 0) 24)
      (take-read l (suc at) n (omega (arith, h.inside))))

  -- the words of its size put out as pairs
  pub command-put : (n : ℕ) → size_at l at ≡ n → (out out' : List ℕ) → out' ≡ sets out (2 * at) (pairs_from id 0 (read l at n))
      → (at + n ≡ at + size_at l at) × (out' ≡ sets out (2 * at) (command_pairs (command_at l at)))
  unfolding command_at
  command-put n s out out' e = (
    ap (λ (m : ℕ). at + m) (sym s),
    e ∙ ap₂ (λ (i : ℕ) (ws : List ℕ). sets out (2 * at) (pairs_from i 0 ws)) (sym (ap (λ (i : ℕ). (row_at i).id) (sym ei) ∙ k.own-id))
        (sym (command-words ∙ ap (read l at) s)),
  )

-- ---- of the commands passed

-- of one run of commands behind another
all_append : (a b : List Command) → pairs_all (a ++ b) ≡ pairs_all a ++ pairs_all b
all_append [] b = refl
all_append (c ∷ cs) b = ap (λ (x : List ℕ). command_pairs c ++ x) (all_append cs b) ∙ sym (append_assoc (command_pairs c) (pairs_all cs) (pairs_all b))

-- at a position of an accepted list the commands passed are written
pub record Put (all : List Command) (l out₀ : List ℕ) (at : ℕ) (out : List ℕ) : Type 0 where
  pub position : Position all l at
  pub out-is : out ≡ sets out₀ 0 (pairs_all position.done)

-- at first none
pub put-start : (image l out : List ℕ) (cs : List Command) → parse image l ≡ accepted cs → Put cs l out 0 out
put-start image l out cs e = record { position = position-start image l cs e; out-is = refl }

module _ (all : List Command) (l out₀ : List ℕ) (at : ℕ) (out : List ℕ) (g : Put all l out₀ at out) where
  abbrev done : List Command
  done = g.position.done

  -- the buffer keeps its length
  pub put-length : length out ≡ length out₀
  put-length = ap length g.out-is ∙ length-sets out₀ 0 (pairs_all done)

  -- at the end all
  pub put_end : length l ≤ at → out ≡ sets out₀ 0 (pairs_all all)
  put_end h =
      let e : all ≡ done = g.position.all-is ∙ ap (λ (x : List Command). done ++ x) (position_end all l at g.position h) ∙ append-nil done in
      g.out-is ∙ ap (λ (x : List Command). sets out₀ 0 (pairs_all x)) (sym e)

  module _ (h : at < length l) where
    t : AtCommand all l at g.position
    t = at_command all l at g.position h

    grown : pairs_all (g.position.done ++ t.command ∷ []) ≡ pairs_all g.position.done ++ command_pairs t.command
    grown = all_append done (t.command ∷ []) ∙ ap (λ (x : List ℕ). pairs_all done ++ x) (append-nil (command_pairs t.command))

    -- there is a command, and room for it
    pub put-command : length l ≤ 4096 → 2 * length l ≤ length out₀ → CommandAt l at × (2 * at + 2 * size_at l at ≤ length out)
    put-command few room = (command_at_lem few t.stands, omega (arith, t.stands.inside, t.stands.size_is, put-length))

    -- with the command written, the position behind it
    pub put_on : (next : ℕ) (out' : List ℕ) → (next ≡ at + size_at l at) × (out' ≡ sets out (2 * at) (command_pairs (command_at l at)))
        → (at < next) × Put all l out₀ next out'
    put_on next out' p =
        let e : next ≡ at + suc (length t.command.rest) = p.0 ∙ ap (λ (n : ℕ). at + n) t.stands.size_is in
        let n : 2 * at ≡ 0 + length (pairs_all done) = omega (arith, g.position.at_is, pairs_length done) in (
          omega arith,
          record {
            position = after g.position t next e;
            out-is = p.1 ∙ ap₂ (λ (x : List ℕ) (c : Command). sets x (2 * at) (command_pairs c)) g.out-is t.stands.command-is
                ∙ ap (λ (m : ℕ). sets (sets out₀ 0 (pairs_all done)) m (command_pairs t.command)) n ∙ sym (sets_append out₀ 0 (pairs_all done) (command_pairs t.command))
                ∙ ap (sets out₀ 0) (sym grown);
          },
        )
