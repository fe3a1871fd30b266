-- A list and its pairs say the same, and what verdict 0 says of the answers.
use Prim.Native.Nat.{ℕ, zero, suc, ◌+◌, ◌*◌, ◌-◌, ◌≤◌}
use native.Mathlib.Omega.{arith}
use mathlib.Core.Path.{◌≡◌, refl, ap, ap₂, sym, ◌∙◌, subst}
use mathlib.Core.Bool.{true, false, cond, not}
use mathlib.Core.List.{List, [], ◌∷◌, ◌++◌}
use mathlib.Core.Option.{Option, none, some}
use lib.Dec.{eqb, ltb}
use lib.Pow.{high}
use borrow.Author.Tests.{eqb-true, eq-eqb}
use lib.ListN.{length, get_or, take, drop, length-append}
use lib.Seq.{take-append_seam, drop-append_seam}
use Rattle.rules.specs.Verdict.{Refusal}
use Rattle.rules.specs.Word.{id_of, first_word}
use Rattle.rules.specs.Command.{Command, words, words_all, command_size}
use Rattle.rules.specs.Values.{refusal}
use Rattle.rules.specs.Walk.{Parsed, accepted, start, walk, parse}
use Rattle.rules.specs.Valid.{Valid, AllValid}
use Rattle.rules.specs.Answer.{commands_of}
use Rattle.rules.specs.Pci.{address, pairs_from, command_pairs, pairs_all, values, whole_pairs, Inside, begun, further, ended, expecting, misplaced, outside, unless, parse_pairs, to_pci, from_pci}
use Rattle.theory.proofs.Valid.{size-words}
use Rattle.theory.proofs.Parse.{parse-accepted, sized-accepted}
use Rattle.theory.proofs.Numbers.{parse-refuses, pairs_refuses}
use Rattle.theory.proofs.Verdict.{Writes, writes, writes-zero}

-- ---- the pairs of a list carry it

values-from : (id k : ℕ) (ws ps : List ℕ) → values (pairs_from id k ws ++ ps) ≡ ws ++ values ps
values-from id k [] ps = refl
values-from id k (w ∷ ws) ps = ap {B = List ℕ} (λ l. w ∷ l) (values-from id (suc k) ws ps)

pub values-all : (cs : List Command) → values (pairs_all cs) ≡ words_all cs
values-all [] = refl
values-all (c ∷ cs) = values-from c.row.id 0 (words c) (pairs_all cs) ∙ ap (λ (l : List ℕ). words c ++ l) (values-all cs)

from-length : (id k : ℕ) (ws ps : List ℕ) → length (pairs_from id k ws ++ ps) ≡ 2 * length ws + length ps
from-length id k [] ps = omega arith
from-length id k (w ∷ ws) ps = omega (arith, from-length id (suc k) ws ps)

pub pairs_length : (cs : List Command) → length (pairs_all cs) ≡ 2 * length (words_all cs)
pairs_length [] = refl
pairs_length (c ∷ cs) =
    omega (arith, from-length c.row.id 0 (words c) (pairs_all cs), pairs_length cs, length-append c.rest (words_all cs))

whole_from : (id k : ℕ) (ws ps : List ℕ) → whole_pairs (pairs_from id k ws ++ ps) ≡ pairs_from id k ws ++ whole_pairs ps
whole_from id k [] ps = refl
whole_from id k (w ∷ ws) ps = ap {B = List ℕ} (λ l. address id k ∷ w ∷ l) (whole_from id (suc k) ws ps)

pub whole-all : (cs : List Command) → whole_pairs (pairs_all cs) ≡ pairs_all cs
whole-all [] = refl
whole-all (c ∷ cs) = whole_from c.row.id 0 (words c) (pairs_all cs) ∙ ap (λ (l : List ℕ). command_pairs c ++ l) (whole-all cs)

-- ---- and are where they are expected

-- between two commands it is all one in which the pairs were
pub between : (o o' : Inside) (p : ℕ) (ps : List ℕ) → misplaced o 0 p ps ≡ misplaced o' 0 p ps
unfolding misplaced
between o o' p [] = refl
between o o' p (a ∷ []) = refl
between o o' p (a ∷ v ∷ ps) = refl

pub expected : (x a p : ℕ) (later : Option Refusal) → a ≡ x → expecting x a p later ≡ later
expected x a p later e = rw (eq-eqb a x e)

through_from : (o : Inside) (p : ℕ) (ws ps : List ℕ)
    → misplaced o (length ws) p (pairs_from o.id o.word ws ++ ps) ≡ misplaced outside 0 (p + length ws) ps
unfolding misplaced
through_from o p [] ps = between o outside p ps ∙ ap (λ (q : ℕ). misplaced outside 0 q ps) (omega arith)
through_from o p (w ∷ ws) ps =
    expected (address o.id o.word) _ p _ refl
    ∙ through_from (further o) (suc p) ws ps
    ∙ ap (λ (q : ℕ). misplaced outside 0 q ps) (omega arith)

through_command : (p : ℕ) (c : Command) (ps : List ℕ) → Valid c
    → misplaced outside 0 p (command_pairs c ++ ps) ≡ misplaced outside 0 (p + length (words c)) ps
unfolding misplaced
through_command p c ps v =
    let w : ℕ = first_word c.row.id c.header in
    let i : id_of w ≡ c.row.id = high c.row.id 24 v.small in
    let size : command_size w (values (pairs_from c.row.id 1 c.rest ++ ps)) ≡ suc (length c.rest) =
    ap (command_size w) (values-from c.row.id 1 c.rest ps) ∙ size-words c (values ps) v in
    let n : command_size w (values (pairs_from c.row.id 1 c.rest ++ ps)) - 1 ≡ length c.rest = omega (arith, size) in
    expected (address (id_of w) 0) (address c.row.id 0) p _ (ap (λ (x : ℕ). address x 0) (sym i))
    ∙ ap₂ (λ (x m : ℕ). misplaced (record { first = p; id = x; word = 1 }) m (suc p) (pairs_from c.row.id 1 c.rest ++ ps)) i n
    ∙ through_from (record { first = p; id = c.row.id; word = 1 }) (suc p) c.rest ps
    ∙ ap (λ (q : ℕ). misplaced outside 0 q ps) (omega arith)

pub placed-all : (p : ℕ) (cs : List Command) → AllValid cs → misplaced outside 0 p (pairs_all cs) ≡ none
unfolding misplaced
placed-all p [] v = refl
placed-all p (c ∷ cs) v = through_command p c (pairs_all cs) v.0 ∙ placed-all (p + length (words c)) cs v.1

-- ---- pairs where they are expected are those of their list

pub expecting_none : (x a p : ℕ) (later : Option Refusal) → expecting x a p later ≡ none → (a ≡ x) × (later ≡ none)
expecting_none x a p later e =
    (elim (eqb a x) as (λ t. eqb a x ≡ t → cond t later (some (refusal 13 p)) ≡ none → (a ≡ x) × (later ≡ none)) [
      | true ↦ λ t q. (eqb-true a x t, q)
      | false ↦ λ t q. let z : ◌≡◌ {A = ℕ} 0 1 = cc in absurd (omega arith)
    ]) refl e

ended_none : (o : Inside) (left : ℕ) → ended o left ≡ none → left ≡ 0
ended_none o zero e = refl
ended_none o (suc left) e = let z : ◌≡◌ {A = ℕ} 0 1 = cc in absurd (omega arith)

-- a list of no words has no commands
no_commands : (id k left : ℕ) (cs : List Command) → left ≡ 0 → drop left [] ≡ words_all cs → [] ≡ pairs_from id k (take left []) ++ pairs_all cs
no_commands id k left [] h e = rw h
no_commands id k left (c ∷ cs) h e = let z : ◌≡◌ {A = ℕ} 0 1 = cc in absurd (omega arith)

first-is : (x y : ℕ) (xs ys : List ℕ) → x ∷ xs ≡ y ∷ ys → (x ≡ y) × (xs ≡ ys)
first-is x y xs ys e = (ap (λ (l : List ℕ). get_or l 0 0) e, ap (λ (l : List ℕ). drop 1 l) e)

placed_pairs : (o : Inside) (left p : ℕ) (ps : List ℕ) (cs : List Command) → misplaced o left p ps ≡ none → AllValid cs
    → drop left (values ps) ≡ words_all cs → whole_pairs ps ≡ pairs_from o.id o.word (take left (values ps)) ++ pairs_all cs
unfolding misplaced
placed_pairs o left p [] cs e v d = no_commands o.id o.word left cs (ended_none o left e) d
placed_pairs o left p (a ∷ []) cs e v d = no_commands o.id o.word left cs (ended_none o left e) d
placed_pairs o (suc left) p (a ∷ x ∷ ps) cs e v d =
    let q = expecting_none (address o.id o.word) a p _ e in
    ap₂ {C = List ℕ} (λ b l. b ∷ x ∷ l) q.0 (placed_pairs (further o) left (suc p) ps cs q.1 v d)
placed_pairs o zero p (a ∷ x ∷ ps) [] e v d = let z : ◌≡◌ {A = ℕ} 0 1 = cc in absurd (omega arith)
placed_pairs o zero p (a ∷ x ∷ ps) (c ∷ cs) e v d =
    let w : ℕ = first_word c.row.id c.header in
    let f = first-is x w (values ps) (c.rest ++ words_all cs) d in
    let i : id_of x ≡ c.row.id = ap id_of f.0 ∙ high c.row.id 24 v.0.small in
    let size : command_size x (values ps) ≡ suc (length c.rest) = ap₂ command_size f.0 f.1 ∙ size-words c (words_all cs) v.0 in
    let n : command_size x (values ps) - 1 ≡ length c.rest = omega (arith, size) in
    let q = expecting_none (address (id_of x) 0) a p _ e in
    let later = subst (λ (m : ℕ). misplaced (begun p x) m (suc p) ps ≡ none) n q.1 in
    let rest : take (length c.rest) (values ps) ≡ c.rest = ap (take (length c.rest)) f.1 ∙ take-append_seam c.rest (words_all cs) in
    let tail : drop (length c.rest) (values ps) ≡ words_all cs = ap (drop (length c.rest)) f.1 ∙ drop-append_seam c.rest (words_all cs) in
    ap₂ {C = List ℕ} (λ b y. b ∷ y ∷ whole_pairs ps) (q.0 ∙ ap (λ (y : ℕ). address y 0) i) f.0
    ∙ ap {B = List ℕ} (λ l. address c.row.id 0 ∷ w ∷ l)
    (placed_pairs (begun p x) (length c.rest) (suc p) ps cs later v.1 tail
    ∙ ap₂ (λ (y : ℕ) (l : List ℕ). pairs_from y 1 l ++ pairs_all cs) i rest)

-- ---- the whole

placed-parse : (image ps : List ℕ) → misplaced outside 0 0 ps ≡ none → parse_pairs image ps ≡ parse image (values ps)
unfolding parse_pairs parse
placed-parse image ps e = rw e

-- pairs are accepted exactly where they are those of an accepted list
pub record Carries (image ps : List ℕ) (cs : List Command) : Type 0 where
  pub parsed : parse image (values ps) ≡ accepted cs
  pub pairs_are : whole_pairs ps ≡ pairs_all cs

pub pairs_carry : (image ps : List ℕ) (cs : List Command) → parse_pairs image ps ≡ accepted cs → Carries image ps cs
unfolding parse_pairs
pairs_carry image ps cs e =
    let n : ℕ = length (values ps) in
    let x : Parsed = unless (misplaced outside 0 0 ps) (walk (start image) 0 0 (values ps)) in
    by_place (misplaced outside 0 0 ps) refl (sized-accepted (ltb 4096 n) (not (eqb (length image) 256)) x cs e).2
  where
    by_place : (x : Option Refusal) → misplaced outside 0 0 ps ≡ x → unless x (walk (start image) 0 0 (values ps)) ≡ accepted cs → Carries image ps cs
    by_place (some f) m q = let z : ◌≡◌ {A = ℕ} 0 1 = cc in absurd (omega arith)
    by_place none m q =
        let t = sym (placed-parse image ps m) ∙ e in
        let a = parse-accepted image (values ps) cs t in
        record { parsed = t; pairs_are = placed_pairs outside 0 0 ps cs m a.parses.valid a.parses.words_are }

-- an odd last word says nothing
pub whole-values : (ps : List ℕ) → values (whole_pairs ps) ≡ values ps
whole-values [] = refl
whole-values (a ∷ []) = refl
whole-values (a ∷ v ∷ ps) = ap {B = List ℕ} (λ l. v ∷ l) (whole-values ps)

whole-placed : (o : Inside) (left p : ℕ) (ps : List ℕ) → misplaced o left p (whole_pairs ps) ≡ misplaced o left p ps
unfolding misplaced
whole-placed o left p [] = refl
whole-placed o left p (a ∷ []) = refl
whole-placed o (suc left) p (a ∷ v ∷ ps) = ap (expecting (address o.id o.word) a p) (whole-placed (further o) left (suc p) ps)
whole-placed o zero p (a ∷ v ∷ ps) =
    ap (λ (l : List ℕ). expecting (address (id_of v) 0) a p (misplaced (begun p v) (command_size v l - 1) (suc p) (whole_pairs ps))) (whole-values ps)
    ∙ ap (expecting (address (id_of v) 0) a p) (whole-placed (begun p v) (command_size v (values ps) - 1) (suc p) ps)

pub carries_pairs : (image ps : List ℕ) (cs : List Command) → Carries image ps cs → parse_pairs image ps ≡ accepted cs
carries_pairs image ps cs k =
    let v = (parse-accepted image (values ps) cs k.parsed).parses.valid in
    placed-parse image ps (sym (whole-placed outside 0 0 ps) ∙ ap (misplaced outside 0 0) k.pairs_are ∙ placed-all 0 cs v) ∙ k.parsed

-- ---- the answers

abbrev pub ToPci : List ℕ → List ℕ → List ℕ → List Command → Type 0
ToPci image ws buffer cs = Writes pairs_all ws image buffer (parse image ws) (to_pci ws image buffer) cs

abbrev pub FromPci : List ℕ → List ℕ → List ℕ → List Command → Type 0
FromPci image ps buffer cs = Writes (λ ds. values ps) (values ps) image buffer (parse_pairs image ps) (from_pci ps image buffer) cs

module _ (image ws buffer : List ℕ) where
  pub to_pci_lem : (cs : List Command) → parse image ws ≡ accepted cs → length (pairs_all cs) ≤ length buffer → ToPci image ws buffer cs
  unfolding to_pci
  to_pci_lem cs e h = writes pairs_all ws image buffer (parse image ws) cs e h

  pub to_pci_zero : (to_pci ws image buffer).answer.verdict ≡ 0 → ToPci image ws buffer (commands_of (parse image ws))
  unfolding to_pci
  to_pci_zero z = writes-zero pairs_all ws image buffer (parse image ws) (parse-refuses image ws) z

module _ (image ps buffer : List ℕ) where
  pub from_pci_lem : (cs : List Command) → parse_pairs image ps ≡ accepted cs → length (values ps) ≤ length buffer → FromPci image ps buffer cs
  unfolding from_pci
  from_pci_lem cs e h = writes (λ ds. values ps) (values ps) image buffer (parse_pairs image ps) cs e h

  pub from_pci_zero : (from_pci ps image buffer).answer.verdict ≡ 0 → FromPci image ps buffer (commands_of (parse_pairs image ps))
  unfolding from_pci
  from_pci_zero z = writes-zero (λ ds. values ps) (values ps) image buffer (parse_pairs image ps) (pairs_refuses image ps) z
