-- A list is accepted exactly where it is the words of valid commands that stand in order.
use Prim.Native.Nat.{ℕ, zero, suc, ◌+◌, ◌≤◌}
use native.Mathlib.Omega.{arith}
use native.Mathlib.Nat.{mod-lt}
use mathlib.Core.Path.{◌≡◌, refl, ap, ap₂, sym, ◌∙◌, subst}
use mathlib.Core.Bool.{Bool, true, false}
use mathlib.Core.Logic.{inl, inr}
use mathlib.Core.List.{List, [], ◌∷◌, ◌++◌}
use mathlib.Core.Option.{Option, none, some}
use lib.Dec.{eqb, ltb}
use lib.Pow.{split, high, low, pow_pos}
use borrow.Author.Tests.{eqb-true, eq-eqb, not-false, ltb-false, le-ltb}
use lib.ListN.{length, take, drop, take-append-drop}
use Rattle.rules.specs.Word.{id_of, header_of, first_word}
use Rattle.rules.specs.Table.{Row, table, find, row_of}
use Rattle.rules.specs.Command.{Command, words_all, rest_size, size_of, command_size}
use Rattle.rules.specs.Verdict.{Refusal}
use Rattle.rules.specs.Decode.{Decoded, bad, good, decode_known, decode}
use Rattle.rules.specs.Walk.{State, start, order_faults, next, Step, stop, took, step_decoded, step, Parsed, refused, accepted, and_then, onward, walk, sized, parse}
use Rattle.theory.proofs.Rows.{found-step}
use Rattle.rules.specs.Valid.{NoFault, Valid, AllValid, InOrder, Parses, Accepted}
use Rattle.theory.proofs.Valid.{none_told, no_faults, passed, passed_length, passed-valid, valid_passes}

found-id : (rows : List Row) (i : ℕ) (r : Row) → find i rows ≡ some r → r.id ≡ i
found-id [] i r e = cc
found-id (s ∷ rs) i r e =
    elim (found-step (eqb s.id i) s r (find i rs) e) [
      | inl h ↦ ap (λ (x : Row). x.id) (sym h.1) ∙ eqb-true _ _ h.0
      | inr h ↦ found-id rs i r h
    ]

pub row-id : (i : ℕ) (r : Row) → row_of i ≡ some r → r.id ≡ i
unfolding row_of
row-id i r e = found-id table i r e

-- a decoding that gave a command: the command's words are those read, and it is valid
pub record Read (w : ℕ) (ws : List ℕ) (c : Command) : Type 0 where
  pub first : w ≡ first_word c.row.id c.header
  pub enough : length c.rest ≤ length ws
  pub rest-is : take (length c.rest) ws ≡ c.rest
  pub size : command_size w ws ≡ suc (length c.rest)
  pub valid : Valid c

module _ (w : ℕ) (ws : List ℕ) (c : Command) where
  known_read : (x : Option Row) → row_of (id_of w) ≡ x → decode_known w ws x ≡ good c → Read w ws c
  unfolding command_size
  known_read none er e = let z : ◌≡◌ {A = ℕ} 0 1 = cc in absurd (omega arith)
  known_read (some r) er e =
      let p = passed r (header_of w) ws c e in
      let n = passed_length r (header_of w) ws c p in
      let ei : r.id ≡ id_of w = row-id _ r er in
      let rest : take (rest_size r (header_of w) ws) ws ≡ c.rest = ap (λ (x : Command). x.rest) p.is in
      record {
        first = sym (split w 24) ∙ ap₂ (λ (i h : ℕ). first_word i h) (sym ei ∙ ap (λ (x : Command). x.row.id) p.is) (ap (λ (x : Command). x.header) p.is);
        enough = omega (arith, p.enough);
        rest-is = ap (λ (j : ℕ). take j ws) n ∙ rest;
        size = ap (size_of (header_of w) ws) er ∙ ap suc (sym n);
        valid = passed-valid r (header_of w) ws c p (ap row_of ei ∙ er) (mod-lt w (pow_pos 24));
      }

  pub decode-read : decode w ws ≡ good c → Read w ws c
  unfolding decode
  decode-read e = known_read _ refl e

-- a valid command's words decode to it, whatever follows them
pub decode-words : (c : Command) (tail : List ℕ) → Valid c → decode (first_word c.row.id c.header) (c.rest ++ tail) ≡ good c
unfolding decode
decode-words c tail v = rw (high c.row.id 24 v.small, v.found, low c.row.id 24 v.small) (valid_passes c tail v)

-- a step that took a command
pub record Took (s : State) (w : ℕ) (ws : List ℕ) (c : Command) (t : State) : Type 0 where
  pub decoded : decode w ws ≡ good c
  pub read : Read w ws c
  pub ordered : NoFault (order_faults s c)
  pub after : t ≡ next s c

module _ (s : State) (w : ℕ) (ws : List ℕ) (c : Command) (t : State) where
  no_took : (f : Refusal) → stop f ≡ took c t → ⊥
  no_took f e = let z : ◌≡◌ {A = ℕ} 0 1 = cc in omega arith

  decoded_took : (x : Decoded) → decode w ws ≡ x → step_decoded s x ≡ took c t → Took s w ws c t
  decoded_took (bad f) ed e = absurd (no_took f e)
  decoded_took (good d) ed e =
      let p = none_told stop (took c t) no_took (order_faults s d) (took d (next s d)) e in
      let q = p.0 in
      let ec : d ≡ c = cc in
      let et : next s d ≡ t = cc in
      let dec : decode w ws ≡ good c = ed ∙ ap good ec in
      record {
        decoded = dec;
        read = decode-read w ws c dec;
        ordered = subst (λ (x : Command). NoFault (order_faults s x)) ec p.1;
        after = sym et ∙ ap (next s) ec;
      }

  pub step-took : step s w ws ≡ took c t → Took s w ws c t
  unfolding step
  step-took e = decoded_took _ refl e

pub step_words : (s : State) (c : Command) (tail : List ℕ) → Valid c → NoFault (order_faults s c)
    → step s (first_word c.row.id c.header) (c.rest ++ tail) ≡ took c (next s c)
unfolding step
step_words s c tail v n = rw (decode-words c tail v) (no_faults stop (order_faults s c) (took c (next s c)) n)

onward-parses : (s : State) (p w : ℕ) (ws : List ℕ) (go : State → ℕ → Parsed) (all : List Command)
    (ih : (t : State) (k : ℕ) (cs : List Command) → go t k ≡ accepted cs → k ≤ length ws → Parses t (drop k ws) cs)
    → (x : Step) → step s w ws ≡ x → onward p go x ≡ accepted all → Parses s (w ∷ ws) all
onward-parses s p w ws go all ih (stop f) es e = let z : ◌≡◌ {A = ℕ} 0 1 = cc in absurd (omega arith)
onward-parses s p w ws go all ih (took c t) es e = then-parses (go t (length c.rest)) refl e
  where
    k : Took s w ws c t
    k = step-took s w ws c t es

    then-parses : (y : Parsed) → go t (length c.rest) ≡ y → and_then c y ≡ accepted all → Parses s (w ∷ ws) all
    then-parses (refused f) ey q = let z : ◌≡◌ {A = ℕ} 0 1 = cc in absurd (omega arith)
    then-parses (accepted cs) ey q =
        let a = ih t (length c.rest) cs ey k.read.enough in
        let whole : Parses s (w ∷ ws) (c ∷ cs) = record {
          words_are = ap₂ {C = List ℕ} (λ x xs. x ∷ xs) k.read.first
              (sym (take-append-drop (length c.rest) ws) ∙ ap₂ (λ (l m : List ℕ). l ++ m) k.read.rest-is a.words_are);
          valid = (k.read.valid, a.valid);
          ordered = (k.ordered, subst (λ (x : State). InOrder x cs) k.after a.ordered);
        } in
        let ea : c ∷ cs ≡ all = cc in
        subst (λ (l : List Command). Parses s (w ∷ ws) l) ea whole

walk-parses : (s : State) (p k : ℕ) (ws : List ℕ) (cs : List Command) → walk s p k ws ≡ accepted cs → k ≤ length ws → Parses s (drop k ws) cs
unfolding walk
walk-parses s p zero [] cs e h =
    let ec : [] ≡ cs = cc in
    subst (λ (l : List Command). Parses s [] l) ec (record { words_are = refl; valid = tt; ordered = tt })
walk-parses s p (suc k) [] cs e h = absurd (omega arith)
walk-parses s p (suc k) (w ∷ ws) cs e h = walk-parses s (suc p) k ws cs e (omega arith)
walk-parses s p zero (w ∷ ws) cs e h =
    onward-parses s p w ws (λ t k. walk t (suc p) k ws) cs (λ t k ds x y. walk-parses t (suc p) k ws ds x y) _ refl e

walk_skip : (s : State) (p : ℕ) (us ws : List ℕ) → walk s p (length us) (us ++ ws) ≡ walk s (p + length us) 0 ws
unfolding walk
walk_skip s p [] ws = ap (λ (q : ℕ). walk s q 0 ws) (omega arith)
walk_skip s p (u ∷ us) ws = walk_skip s (suc p) us ws ∙ ap (λ (q : ℕ). walk s q 0 ws) (omega arith)

pub walk-words : (s : State) (p : ℕ) (cs : List Command) → AllValid cs → InOrder s cs → walk s p 0 (words_all cs) ≡ accepted cs
unfolding walk
walk-words s p [] v f = refl
walk-words s p (c ∷ cs) v f =
    ap (onward p (λ t k. walk t (suc p) k (c.rest ++ words_all cs))) (step_words s c (words_all cs) v.0 f.0)
    ∙ ap (and_then c) (walk_skip (next s c) (suc p) c.rest (words_all cs) ∙ walk-words (next s c) (suc p + length c.rest) cs v.1 f.1)

-- the whole list
pub sized-accepted : (a b : Bool) (x : Parsed) (cs : List Command) → sized a b x ≡ accepted cs → (a ≡ false) × (b ≡ false) × (x ≡ accepted cs)
sized-accepted true b x cs e = (cc, cc, cc)
sized-accepted false true x cs e = (cc, cc, cc)
sized-accepted false false x cs e = (refl, refl, e)

pub parse-accepted : (image ws : List ℕ) (cs : List Command) → parse image ws ≡ accepted cs → Accepted image ws cs
unfolding parse
parse-accepted image ws cs e =
    let s = sized-accepted _ _ _ cs e in
    record {
      few = ltb-false 4096 (length ws) s.0;
      whole = eqb-true (length image) 256 (not-false _ s.1);
      parses = walk-parses (start image) 0 0 ws cs s.2 (omega arith);
    }

pub parse-words : (image : List ℕ) (cs : List Command) → length (words_all cs) ≤ 4096 → length image ≡ 256 → AllValid cs → InOrder (start image) cs
    → parse image (words_all cs) ≡ accepted cs
unfolding parse
parse-words image cs few whole v f =
    let a : ltb 4096 (length (words_all cs)) ≡ false = le-ltb 4096 (length (words_all cs)) few in
    let b : eqb (length image) 256 ≡ true = eq-eqb (length image) 256 whole in
    rw (a, b) (walk-words (start image) 0 cs v f)

pub accepted-parse : (image ws : List ℕ) (cs : List Command) → Accepted image ws cs → parse image ws ≡ accepted cs
accepted-parse image ws cs a =
    let e = a.parses.words_are in
    ap (parse image) e ∙ parse-words image cs (omega (arith, a.few, ap length e)) a.whole a.parses.valid a.parses.ordered
