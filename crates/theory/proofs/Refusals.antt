-- The refusals of a list and of pairs are of two kinds: 6, with the lowest undefined bit of its word, and those with another
-- number, which name no bit. What holds of both kinds holds of every refusal of a list and of pairs.
use Prim.Native.Nat.{ℕ, zero, suc, ◌+◌, ◌-◌, ◌≤◌, ◌<◌}
use native.Mathlib.Nat.{add-zero, zero-add}
use native.Mathlib.Omega.{arith}
use mathlib.Core.Path.{◌≡◌, refl, ap, sym, subst}
use mathlib.Core.Bool.{Bool, true, false, cond, not, ◌&&◌, ◌||◌}
use mathlib.Core.List.{List, [], ◌∷◌, ◌++◌}
use mathlib.Core.Option.{Option, none, some}
use lib.Dec.{eqb, leb, ltb}
use borrow.Author.Tests.{leb-true, ltb-false, eqb-true}
use lib.ListN.{length, get_or, take, length-take}
use lib.Seq.{get_or-take}
use Rattle.rules.specs.Verdict.{Refusal}
use Rattle.rules.specs.Word.{id_of, header_of, lowest_undefined, undefined, LowestUndefinedAt}
use Rattle.rules.specs.Table.{Row, row_of}
use Rattle.rules.specs.Command.{Command, more_masks, own_size, rest_size, size_of, command_size}
use Rattle.rules.specs.Place.{own_masks, word_mask}
use Rattle.rules.specs.Values.{refusal, undefined_bit, shift, Fault, first_fault, undefined_faults, value_faults, load_faults, primitive_faults, clip_faults, raster_faults, faults}
use Rattle.rules.specs.Decode.{Decoded, bad, good, decode_known, decode_row, decode}
use Rattle.rules.specs.Walk.{State, start, order_faults, next, Step, stop, took, step_decoded, step, Parsed, refused, accepted, walk, sized, parse}
use Rattle.rules.specs.Pci.{address, values, Inside, begun, further, ended, misplaced, outside, unless, parse_pairs}
use Rattle.theory.proofs.Bools.{and_left, and_right}
use Rattle.theory.proofs.Rows.{row-mask}
use Rattle.theory.proofs.Lowest.{undefined-lowest, first-lowest}
use Rattle.theory.proofs.Place.{any_default, mask_at_lem, RefusedAt, refused_at_lem}

-- 20 is about a pair of a table, and 21 about a mode
abbrev pub not_of_call : ℕ → Bool
not_of_call n = eqb n 20 || eqb n 21

-- 0 is acceptance, and 11 about a lent buffer
abbrev pub not_of_list : ℕ → Bool
not_of_list n = eqb n 0 || (eqb n 11 || not_of_call n)

-- a number that a list's refusal has, other than 6: it names no bit
abbrev pub other_than_six : ℕ → Bool
other_than_six n = not (eqb n 6 || not_of_list n)

-- ---- the faults of a command

-- each where it is found
abbrev pub OfFaults : (Refusal → Type 0) → List Fault → Type 0
OfFaults P [] = Unit {0}
OfFaults P (f ∷ fs) = (f.found ≡ true → P f.why) × OfFaults P fs

-- 6 of each word, under its mask
abbrev pub OfUndefined : (Refusal → Type 0) → List ℕ → List ℕ → Type 0
OfUndefined P masks words =
    (k : ℕ) → k < length masks → k < length words → undefined (get_or words k 0) (get_or masks k 0) ≡ true
    → P (undefined_bit k (get_or words k 0) (get_or masks k 0))

-- the faults of values and of order name no bit: one test
value_fault : Fault → Bool
value_fault f = other_than_six f.why.number && (leb f.why.word 3 && eqb f.why.bit 32)

all_value : List Fault → Bool
all_value [] = true
all_value (f ∷ fs) = value_fault f && all_value fs

value_test : (load primitive clip raster : Bool) (h a b c : ℕ)
    → all_value (cond load (load_faults h a b c) (cond primitive (primitive_faults h a b c) (cond clip (clip_faults a b) (cond raster (raster_faults h) [])))) ≡ true
unfolding all_value value_fault
value_test true _ _ _ h a b c = refl
value_test false true _ _ h a b c = refl
value_test false false true _ h a b c = refl
value_test false false false true h a b c = refl
value_test false false false false h a b c = refl

abbrev OfDecoded : (Refusal → Type 0) → Decoded → Type 0
OfDecoded P (bad f) = P f
OfDecoded P (good c) = Unit {0}

abbrev OfStep : (Refusal → Type 0) → Step → Type 0
OfStep P (stop f) = P f
OfStep P (took c t) = Unit {0}

module _ (P : Refusal → Type 0) (others : (n w : ℕ) → other_than_six n ≡ true → w ≤ 3 → P (refusal n w)) where
  of_append : (fs gs : List Fault) → OfFaults P fs → OfFaults P gs → OfFaults P (fs ++ gs)
  of_append [] gs p q = q
  of_append (f ∷ fs) gs p q = (p.0, of_append fs gs p.1 q)

  of_undefined : (i : ℕ) (ms us : List ℕ) → OfUndefined (λ f. P (shift i f)) ms us → OfFaults P (undefined_faults i ms us)
  of_undefined i [] us h = tt
  of_undefined i (m ∷ ms) [] h = tt
  of_undefined i (m ∷ ms) (u ∷ us) h = (
    λ e. subst (λ (j : ℕ). P (undefined_bit j u m)) (add-zero i) (h 0 (omega arith) (omega arith) e),
    of_undefined (suc i) ms us (λ k a b e. let s : i + suc k ≡ suc i + k = omega arith in
        subst (λ (j : ℕ). P (undefined_bit j (get_or us k 0) (get_or ms k 0))) s (h (suc k) (omega arith) (omega arith) e)),
  )

  of_tested : (fs : List Fault) → all_value fs ≡ true → OfFaults P fs
  unfolding all_value value_fault
  of_tested [] t = tt
  of_tested (f ∷ fs) t =
      let v = and_left (value_fault f) _ t in
      let near = and_right (other_than_six f.why.number) _ v in
      let b : 32 ≡ f.why.bit = sym (eqb-true _ _ (and_right (leb f.why.word 3) _ near)) in (
        λ e. subst (λ (x : ℕ). P (record { number = f.why.number; word = f.why.word; bit = x })) b
            (others f.why.number f.why.word (and_left (other_than_six f.why.number) _ v) (leb-true _ _ (and_left (leb f.why.word 3) _ near))),
        of_tested fs (and_right (value_fault f) _ t),
      )

  pub of_values : (id h : ℕ) (own : List ℕ) → OfFaults P (value_faults id h own)
  unfolding value_faults
  of_values id h own =
      of_tested (value_faults id h own) (value_test (eqb id 0x40) (eqb id 0x48) (eqb id 0x84) (eqb id 0x88) h (get_or own 0 0) (get_or own 1 0) (get_or own 2 0))

  pub of_faults : (r : Row) (h : ℕ) (own : List ℕ) → OfUndefined P (r.mask ∷ more_masks r h) (h ∷ own) → OfFaults P (faults r h own)
  unfolding faults
  of_faults r h own six =
      of_append (undefined_faults 0 (r.mask ∷ more_masks r h) (h ∷ own)) (value_faults r.id h own)
      (of_undefined 0 (r.mask ∷ more_masks r h) (h ∷ own) (λ k a b e. rw (zero-add k) (six k a b e)))
      (of_values r.id h own)

  -- ---- one command

  -- what holds of each refusal told, and of what follows, holds of the first fault
  of_first : {A : Type 0} (Q : A → Type 0) (refuse : Refusal → A) → ((f : Refusal) → P f → Q (refuse f)) → (fs : List Fault) (d : A)
      → OfFaults P fs → Q d → Q (first_fault refuse fs d)
  of_first Q refuse h [] d p q = q
  of_first Q refuse h (f ∷ fs) d p q =
      (elim f.found as (λ t. f.found ≡ t → Q (cond t (refuse f.why) (first_fault refuse fs d))) [
        | true ↦ λ e. h f.why (p.0 e)
        | false ↦ λ e. of_first Q refuse h fs d p.1 q
      ]) refl

  of_cond : (b : Bool) (d e : Decoded) → OfDecoded P d → OfDecoded P e → OfDecoded P (cond b d e)
  of_cond true d e p q = p
  of_cond false d e p q = q

  first_word : (n : ℕ) → other_than_six n ≡ true → P (refusal n 0)
  first_word n b = others n 0 b (omega arith)

  of_row_lem : (r : Row) (h : ℕ) (ws : List ℕ) → OfUndefined P (r.mask ∷ more_masks r h) (h ∷ take (own_size r h) ws) → OfDecoded P (decode_row r h ws)
  unfolding decode_row
  of_row_lem r h ws six =
      let own : ℕ = own_size r h in
      let all : ℕ = rest_size r h ws in
      let c : Command = record { row = r; header = h; rest = take all ws } in
      let whole : Decoded = cond (ltb (length ws) all) (bad (refusal 9 0)) (good c) in
      of_cond (ltb (length ws) own) (bad (refusal 5 0)) (first_fault bad (faults r h (take own ws)) whole) (first_word 5 refl)
      (of_first (OfDecoded P) bad (λ f p. p) (faults r h (take own ws)) whole (of_faults r h (take own ws) six)
      (of_cond (ltb (length ws) all) (bad (refusal 9 0)) (good c) (first_word 9 refl) tt))

  of_unknown : (b : Bool) → P (refusal (cond b 4 3) 0)
  of_unknown true = first_word 4 refl
  of_unknown false = first_word 3 refl

  module _ (w : ℕ) (ws : List ℕ)
      (six : (r : Row) → row_of (id_of w) ≡ some r → OfUndefined P (r.mask ∷ more_masks r (header_of w)) (header_of w ∷ take (own_size r (header_of w)) ws)) where
    of_known : (x : Option Row) → row_of (id_of w) ≡ x → OfDecoded P (decode_known w ws x)
    of_known none e = of_unknown (eqb (id_of w) 3 || eqb (id_of w) 4)
    of_known (some r) e = of_row_lem r (header_of w) ws (six r e)

    of_decoded : (s : State) (d : Decoded) → OfDecoded P d → OfStep P (step_decoded s d)
    unfolding order_faults all_value value_fault
    of_decoded s (bad f) p = p
    of_decoded s (good c) p = of_first (OfStep P) stop (λ f q. q) (order_faults s c) (took c (next s c)) (of_tested (order_faults s c) refl) tt

    of_step : (s : State) (f : Refusal) → step s w ws ≡ stop f → P f
    unfolding step decode
    of_step s f e = subst (OfStep P) e (of_decoded s (decode w ws) (of_known (row_of (id_of w)) refl))

-- ---- a list

-- P holds of both kinds, at positions up to 4098: a command of four words may begin at the last of a list's 4,096
pub record OfRefusals (P : Refusal → Type 0) (l : List ℕ) : Type 0 where
  pub others : (n p : ℕ) → other_than_six n ≡ true → p ≤ 4098 → P (refusal n p)
  pub six : (p b : ℕ) → p ≤ 4098 → LowestUndefinedAt (get_or l p 0) (word_mask l p) b → P (record { number = 6; word = p; bit = b })

pub weaker : {P Q : Refusal → Type 0} {l : List ℕ} → ((f : Refusal) → P f → Q f) → OfRefusals P l → OfRefusals Q l
weaker {P} {Q} {l} h of = record { others = λ n p o near. h _ (of.others n p o near); six = λ p b near lowest. h _ (of.six p b near lowest) }

abbrev pub OfParsed : (Refusal → Type 0) → Parsed → Type 0
OfParsed P (refused f) = P f
OfParsed P (accepted cs) = Unit {0}

-- the own words of the command that a list is refused at
module _ (l : List ℕ) (f : Refusal) (a : RefusedAt l f) (r : Row) (found : row_of (id_of a.word) ≡ some r) where
  abbrev header : ℕ
  header = header_of a.word

  own-mask : (k : ℕ) → k ≤ own_size r header → word_mask l (a.at + k) ≡ get_or (own_masks r header) k 0xFFFFFFFF
  unfolding command_size
  own-mask k h =
      let size : command_size a.word a.behind ≡ suc (rest_size r header a.behind) = ap (size_of header a.behind) found in
      mask_at_lem l a.at a.word a.behind r a.placed found k (omega (arith, size))

  lowest_at : (k : ℕ) → k ≤ own_size r header
      → undefined (get_or (header ∷ take (own_size r header) a.behind) k 0) (get_or (r.mask ∷ more_masks r header) k 0) ≡ true
      → LowestUndefinedAt (get_or l (a.at + k) 0) (word_mask l (a.at + k))
      (lowest_undefined (get_or (header ∷ take (own_size r header) a.behind) k 0) (get_or (r.mask ∷ more_masks r header) k 0))
  lowest_at zero h e =
      rw (a.placed.words 0, own-mask 0 h) (first-lowest a.word r.mask (row-mask _ r found) _ (undefined-lowest header r.mask e))
  lowest_at (suc k) h e =
      let w = get_or-take (own_size r header) a.behind k 0 (omega arith) in
      let m = any_default (more_masks r header) k 0xFFFFFFFF 0 (omega arith) in
      rw (a.placed.words (suc k), own-mask (suc k) h, m, ← w) (undefined-lowest (get_or (take (own_size r header) a.behind) k 0) (get_or (more_masks r header) k 0) e)

module _ (P : Refusal → Type 0) (l : List ℕ) (of : OfRefusals P l) where
  of_refused : (f : Refusal) → length l ≤ 4096 → RefusedAt l f → P f
  of_refused f few a =
      subst P a.is
      (of_step (λ g. P (shift a.at g)) (λ n w b h. of.others n (a.at + w) b (omega (arith, a.ends))) a.word a.behind
      (λ r found k m w e. of.six (a.at + k) _ (omega (arith, a.ends, length-take (own_size r (header_of a.word)) a.behind)) (lowest_at l f a r found k (omega arith) e))
      a.state a.why a.stops)

  of_walk : (s : State) → length l ≤ 4096 → OfParsed P (walk s 0 0 l)
  of_walk s few = by_parsed (walk s 0 0 l) refl
    where
      by_parsed : (x : Parsed) → walk s 0 0 l ≡ x → OfParsed P x
      by_parsed (refused f) e = of_refused f few (refused_at_lem l f s e)
      by_parsed (accepted cs) e = tt

  of_sized : (b : Bool) (x : Parsed) → (length l ≤ 4096 → OfParsed P x) → OfParsed P (sized (ltb 4096 (length l)) b x)
  of_sized b x p =
      (elim (ltb 4096 (length l)) as (λ t. ltb 4096 (length l) ≡ t → OfParsed P (sized t b x)) [
        | true ↦ λ e. of.others 1 4096 refl (omega arith)
        | false ↦ λ e. by_image b (p (ltb-false 4096 (length l) e))
      ]) refl
    where
      by_image : (b : Bool) → OfParsed P x → OfParsed P (sized false b x)
      by_image true q = of.others 2 0 refl (omega arith)
      by_image false q = q

  pub of_parse : (image : List ℕ) → OfParsed P (parse image l)
  unfolding parse
  of_parse image = of_sized (not (eqb (length image) 256)) (walk (start image) 0 0 l) (of_walk (start image))

-- ---- pairs: 13 and 14 name no bit either

abbrev OfPair : (Refusal → Type 0) → Option Refusal → Type 0
OfPair P none = Unit {0}
OfPair P (some f) = P f

module _ (P : Refusal → Type 0) (others : (n p : ℕ) → other_than_six n ≡ true → p ≤ 4098 → P (refusal n p)) where
  of_ended : (o : Inside) (left : ℕ) → o.first ≤ 4098 → OfPair P (ended o left)
  of_ended o zero h = tt
  of_ended o (suc left) h = others 14 o.first refl h

  of_expecting : (b : Bool) (p : ℕ) (later : Option Refusal) → p ≤ 4098 → OfPair P later → OfPair P (cond b later (some (refusal 13 p)))
  of_expecting true p later h q = q
  of_expecting false p later h q = others 13 p refl h

  of_misplaced : (o : Inside) (left p : ℕ) (ps : List ℕ) → o.first ≤ 4098 → p + length (values ps) ≤ 4098 → OfPair P (misplaced o left p ps)
  unfolding misplaced
  of_misplaced o left p [] f h = of_ended o left f
  of_misplaced o left p (a ∷ []) f h = of_ended o left f
  of_misplaced o (suc left) p (a ∷ v ∷ ps) f h =
      of_expecting (eqb a (address o.id o.word)) p _ (omega arith) (of_misplaced (further o) left (suc p) ps f (omega arith))
  of_misplaced o zero p (a ∷ v ∷ ps) f h =
      of_expecting (eqb a (address (id_of v) 0)) p _ (omega arith)
      (of_misplaced (begun p v) (command_size v (values ps) - 1) (suc p) ps (omega arith) (omega arith))

  of_unless : (x : Option Refusal) (y : Parsed) → OfPair P x → OfParsed P y → OfParsed P (unless x y)
  of_unless (some f) y p q = p
  of_unless none y p q = q

pub of_pairs : (P : Refusal → Type 0) (image ps : List ℕ) → OfRefusals P (values ps) → OfParsed P (parse_pairs image ps)
unfolding parse_pairs
of_pairs P image ps of =
    of_sized P (values ps) of (not (eqb (length image) 256)) (unless (misplaced outside 0 0 ps) (walk (start image) 0 0 (values ps)))
    (λ few. of_unless P of.others (misplaced outside 0 0 ps) (walk (start image) 0 0 (values ps))
    (of_misplaced P of.others outside 0 0 ps (omega arith) (omega arith)) (of_walk P (values ps) of (start image) few))
