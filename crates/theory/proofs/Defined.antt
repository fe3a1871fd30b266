-- In an accepted list no bit is set outside its mask.
use Prim.Native.Nat.{ℕ, zero, suc, ◌+◌, ◌-◌, ◌≤◌, ◌<◌}
use native.Mathlib.Nat.{add-zero}
use native.Mathlib.Omega.{arith}
use mathlib.Core.Path.{◌≡◌, refl, ap, sym, ◌∙◌, subst}
use mathlib.Core.Bool.{true, false}
use mathlib.Core.List.{List, [], ◌∷◌, ◌++◌}
use mathlib.Core.Option.{some}
use lib.Dec.{ltb}
use lib.Pow.{high, low}
use borrow.Author.Tests.{ltb-true, ltb-false}
use lib.ListN.{length, get_or, take, get_or-append, get_or-eq_default}
use lib.Seq.{get_or-take, length-take-le}
use Rattle.rules.specs.Word.{id_of, header_of, first_word, undefined, AllDefined}
use Rattle.rules.specs.Table.{row_of}
use Rattle.rules.specs.Command.{Command, words, words_all, more_masks, own_size}
use Rattle.rules.specs.Place.{own_masks, word_mask}
use Rattle.rules.specs.Values.{Fault, undefined_faults, faults}
use Rattle.rules.specs.Valid.{NoFault, Valid, AllValid}
use Rattle.theory.proofs.Rows.{row-mask}
use Rattle.theory.proofs.Valid.{size-words}
use Rattle.theory.proofs.Lowest.{all_defined, all_ones_defined, first_defined}
use Rattle.theory.proofs.Place.{any_default, From, whole, behind-first, next_word, StartsAt, starts_at, mask_at_lem}

-- no fault is found among those of undefined bits
none_undefined : (i : ℕ) (ms us : List ℕ) (fs : List Fault) → NoFault (undefined_faults i ms us ++ fs)
    → (k : ℕ) → k < length ms → k < length us → undefined (get_or us k 0) (get_or ms k 0) ≡ false
none_undefined i [] us fs n k a b = absurd (omega arith)
none_undefined i (m ∷ ms) [] fs n k a b = absurd (omega arith)
none_undefined i (m ∷ ms) (u ∷ us) fs n zero a b = n.0
none_undefined i (m ∷ ms) (u ∷ us) fs n (suc k) a b = none_undefined (suc i) ms us fs n.1 k (omega arith) (omega arith)

-- a valid command's words, by their masks
module _ (c : Command) (v : Valid c) where
  abbrev own : ℕ
  own = own_size c.row c.header

  word_defined : (k : ℕ) → k < length (words c) → AllDefined (get_or (words c) k 0) (get_or (own_masks c.row c.header) k 0xFFFFFFFF)
  unfolding faults
  word_defined zero h =
      let header : header_of (first_word c.row.id c.header) ≡ c.header = low c.row.id 24 v.small in
      first_defined (first_word c.row.id c.header) c.row.mask (row-mask _ c.row v.found)
      (ap (λ (x : ℕ). undefined x c.row.mask) header ∙ v.no_fault.0)
  word_defined (suc k) h =
      (elim (ltb k own) as (λ t. ltb k own ≡ t → AllDefined (get_or c.rest k 0) (get_or (more_masks c.row c.header) k 0xFFFFFFFF)) [
        | true ↦ λ e. own-word (ltb-true k own e)
        | false ↦ λ e. payload-word (ltb-false k own e)
      ]) refl
    where
      own-word : k < own → AllDefined (get_or c.rest k 0) (get_or (more_masks c.row c.header) k 0xFFFFFFFF)
      own-word b =
          let n = length-take-le own c.rest (omega (arith, v.size)) in
          let t = none_undefined 1 (more_masks c.row c.header) (take own c.rest) _ v.no_fault.1 k b (omega arith) in
          rw (any_default (more_masks c.row c.header) k 0xFFFFFFFF 0 b, ← get_or-take own c.rest k 0 b) (all_defined _ _ t)

      payload-word : own ≤ k → AllDefined (get_or c.rest k 0) (get_or (more_masks c.row c.header) k 0xFFFFFFFF)
      payload-word b = rw (get_or-eq_default (more_masks c.row c.header) 0xFFFFFFFF b) (all_defined _ _ (all_ones_defined (get_or c.rest k 0)))

module _ (l : List ℕ) where
  -- behind the words of a command
  passed : (p first : ℕ) (rest us : List ℕ) → From l p (length rest) first (rest ++ us) → From l (p + length rest) 0 first us
  passed p first [] us f = subst (λ (q : ℕ). From l q 0 first us) (sym (add-zero p)) f
  passed p first (w ∷ rest) us f =
      let e : suc p + length rest ≡ p + suc (length rest) = omega arith in
      subst (λ (q : ℕ). From l q 0 first us) e (passed (suc p) first rest us (next_word l p first w (rest ++ us) (length rest) f))

  defined_in : (p : ℕ) (c : Command) (us : List ℕ) → Valid c → StartsAt l p (first_word c.row.id c.header) (c.rest ++ us)
      → (k : ℕ) → k < length (words c) → AllDefined (get_or l (p + k) 0) (word_mask l (p + k))
  defined_in p c us v at k h =
      let w : ℕ = first_word c.row.id c.header in
      let found : row_of (id_of w) ≡ some c.row = ap row_of (high c.row.id 24 v.small) ∙ v.found in
      let mask = mask_at_lem l p w (c.rest ++ us) c.row at found k (omega (arith, size-words c us v))
      ∙ ap (λ (x : ℕ). get_or (own_masks c.row x) k 0xFFFFFFFF) (low c.row.id 24 v.small) in
      rw (at.words k, mask, get_or-append (words c) us 0 k h) (word_defined c v k h)

  defined_from : (p first : ℕ) (cs : List Command) → AllValid cs → From l p 0 first (words_all cs)
      → (q : ℕ) → p ≤ q → q < length l → AllDefined (get_or l q 0) (word_mask l q)
  defined_from p first [] v f q a b = absurd (omega (arith, f.ends))
  defined_from p first (c ∷ cs) v f q a b =
      (elim (ltb (q - p) (length (words c))) as (λ t. ltb (q - p) (length (words c)) ≡ t → AllDefined (get_or l q 0) (word_mask l q)) [
        | true ↦ λ e. let s : p + (q - p) ≡ q = omega arith in
            subst (λ (x : ℕ). AllDefined (get_or l x 0) (word_mask l x)) s
            (defined_in p c (words_all cs) v.0 (starts_at l p first _ (c.rest ++ words_all cs) f) (q - p) (ltb-true _ _ e))
        | false ↦ λ e. let n = ltb-false (q - p) (length (words c)) e in
            defined_from (suc p + length c.rest) p cs v.1
            (passed (suc p) p c.rest (words_all cs) (behind-first l p first _ (c.rest ++ words_all cs) (length c.rest) f (size-words c (words_all cs) v.0)))
            q (omega arith) b
      ]) refl

pub defined_all : (cs : List Command) → AllValid cs → (q : ℕ) → q < length (words_all cs) → AllDefined (get_or (words_all cs) q 0) (word_mask (words_all cs) q)
defined_all cs v q h = defined_from (words_all cs) 0 0 cs v (whole (words_all cs)) q (omega arith) h
