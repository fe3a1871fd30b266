-- The commands of a list by position: where the words of each stand, and which one a refused list stops at.
use Prim.Native.Nat.{ℕ, zero, suc, ◌+◌, ◌-◌, ◌≤◌, ◌<◌}
use native.Mathlib.Nat.{add-zero, zero-add}
use native.Mathlib.Omega.{arith}
use mathlib.Core.Path.{◌≡◌, refl, ap, sym, ◌∙◌}
use mathlib.Core.Bool.{true, false, cond}
use mathlib.Core.List.{List, [], ◌∷◌}
use mathlib.Core.Option.{some}
use lib.Dec.{eqb}
use lib.ListN.{length, get_or}
use borrow.Author.Tests.{eqb-false, ne_eqb}
use Rattle.rules.specs.Verdict.{Refusal}
use Rattle.rules.specs.Word.{id_of, header_of}
use Rattle.rules.specs.Table.{Row, row_of}
use Rattle.rules.specs.Command.{Command, command_size}
use Rattle.rules.specs.Place.{start_from, start_of, own_masks, word_mask}
use Rattle.rules.specs.Values.{shift}
use Rattle.rules.specs.Walk.{State, Step, stop, took, step, Parsed, refused, accepted, and_then, onward, walk}
use Rattle.theory.proofs.Parse.{step-took}

-- inside the words of a command
pub inside : (p first k at : ℕ) (ws : List ℕ) → at ≤ p → p < at + k → start_from p first k at ws ≡ first
unfolding start_from
inside p first k at [] a b = refl
inside p first zero at (w ∷ ws) a b = absurd (omega arith)
inside p first (suc k) at (w ∷ ws) a b =
    (elim (eqb at p) as (λ t. eqb at p ≡ t → cond t first (start_from p first k (suc at) ws) ≡ first) [
      | true ↦ λ e. refl
      | false ↦ λ e. inside p first k (suc at) ws (omega (arith, eqb-false at p e)) (omega arith)
    ]) refl

-- a list from position p on, of which the first k words belong to the command that began at `first`
pub record From (l : List ℕ) (p k first : ℕ) (us : List ℕ) : Type 0 where
  pub words : (i : ℕ) → get_or l (p + i) 0 ≡ get_or us i 0
  pub ends : p + length us ≡ length l
  pub starts : (q : ℕ) → p ≤ q → start_of l q ≡ start_from q first k p us

pub whole : (l : List ℕ) → From l 0 0 0 l
whole l = record { words = λ i. ap (λ (j : ℕ). get_or l j 0) (zero-add i); ends = zero-add (length l); starts = λ q h. refl }

module _ (l : List ℕ) (p first w : ℕ) (us : List ℕ) where
  shifted : ((i : ℕ) → get_or l (p + i) 0 ≡ get_or (w ∷ us) i 0) → (i : ℕ) → get_or l (suc p + i) 0 ≡ get_or us i 0
  shifted h i = ap (λ (j : ℕ). get_or l j 0) (omega arith) ∙ h (suc i)

  -- one word further in a command
  pub next_word : (k : ℕ) → From l p (suc k) first (w ∷ us) → From l (suc p) k first us
  unfolding start_from
  next_word k f = record {
    words = shifted f.words;
    ends = omega (arith, f.ends);
    starts = λ q h. f.starts q (omega arith) ∙ rw (ne_eqb p q (λ e. omega (arith, e)));
  }

  -- behind a command's first word
  pub behind-first : (k : ℕ) → From l p 0 first (w ∷ us) → command_size w us ≡ suc k → From l (suc p) k p us
  unfolding start_from
  behind-first k f s = let n : command_size w us - 1 ≡ k = omega (arith, s) in record {
    words = shifted f.words;
    ends = omega (arith, f.ends);
    starts = λ q h. f.starts q (omega arith) ∙ rw (ne_eqb p q (λ e. omega (arith, e)), n);
  }

-- a command starts at position `at` of a list: its first word, and the words behind it
pub record StartsAt (l : List ℕ) (at w : ℕ) (us : List ℕ) : Type 0 where
  pub words : (k : ℕ) → get_or l (at + k) 0 ≡ get_or (w ∷ us) k 0
  pub starts : (k : ℕ) → k < command_size w us → start_of l (at + k) ≡ at

pub starts_at : (l : List ℕ) (p first w : ℕ) (us : List ℕ) → From l p 0 first (w ∷ us) → StartsAt l p w us
unfolding start_from
starts_at l p first w us f = record {
  words = f.words;
  starts = λ k h. f.starts (p + k) (omega arith)
      ∙ (elim (eqb p (p + k)) as (λ t. eqb p (p + k) ≡ t → cond t p (start_from (p + k) p (command_size w us - 1) (suc p) us) ≡ p) [
        | true ↦ λ e. refl
        | false ↦ λ e. inside (p + k) p (command_size w us - 1) (suc p) us (omega (arith, eqb-false p (p + k) e)) (omega arith)
      ]) refl;
}

-- the masks of its words
pub mask_at_lem : (l : List ℕ) (at w : ℕ) (us : List ℕ) (r : Row) → StartsAt l at w us → row_of (id_of w) ≡ some r
    → (k : ℕ) → k < command_size w us → word_mask l (at + k) ≡ get_or (own_masks r (header_of w)) k 0xFFFFFFFF
unfolding word_mask
mask_at_lem l at w us r c found k h =
    let first : get_or l at 0 ≡ w = ap (λ (i : ℕ). get_or l i 0) (sym (add-zero at)) ∙ c.words 0 in
    let n : at + k - at ≡ k = omega arith in
    rw (c.starts k h, first, found, n)

-- an own word's mask is the same, whatever stands for the others
pub any_default : (ms : List ℕ) (k d e : ℕ) → k < length ms → get_or ms k d ≡ get_or ms k e
any_default [] k d e h = absurd (omega arith)
any_default (m ∷ ms) zero d e h = refl
any_default (m ∷ ms) (suc k) d e h = any_default ms k d e (omega arith)

-- where a list is refused: at a word of the command that is not taken
pub record RefusedAt (l : List ℕ) (f : Refusal) : Type 0 where
  pub at : ℕ
  pub word : ℕ
  pub behind : List ℕ
  pub state : State
  pub why : Refusal
  pub stops : step state word behind ≡ stop why
  pub is : shift at why ≡ f
  pub placed : StartsAt l at word behind
  pub ends : at + suc (length behind) ≡ length l

then-refused : (c : Command) (x : Parsed) (f : Refusal) → and_then c x ≡ refused f → x ≡ refused f
then-refused c (refused g) f e = e
then-refused c (accepted cs) f e = let z : ◌≡◌ {A = ℕ} 0 1 = cc in absurd (omega arith)

module _ (l : List ℕ) (f : Refusal) where
  at_step : (s : State) (p first w : ℕ) (us : List ℕ) (x : Step) → From l p 0 first (w ∷ us) → step s w us ≡ x
      → ((t : State) (k : ℕ) → From l (suc p) k p us → walk t (suc p) k us ≡ refused f → RefusedAt l f)
      → onward p (λ t k. walk t (suc p) k us) x ≡ refused f → RefusedAt l f
  at_step s p first w us (stop g) h es ih e = record {
    at = p;
    word = w;
    behind = us;
    state = s;
    why = g;
    stops = es;
    is = cc;
    placed = starts_at l p first w us h;
    ends = h.ends;
  }
  at_step s p first w us (took c t) h es ih e =
      ih t (length c.rest) (behind-first l p first w us (length c.rest) h (step-took s w us c t es).read.size) (then-refused c _ f e)

  from-position : (s : State) (p k first : ℕ) (us : List ℕ) → From l p k first us → walk s p k us ≡ refused f → RefusedAt l f
  unfolding walk
  from-position s p k first [] h e = let z : ◌≡◌ {A = ℕ} 0 1 = cc in absurd (omega arith)
  from-position s p (suc k) first (w ∷ us) h e = from-position s (suc p) k first us (next_word l p first w us k h) e
  from-position s p zero first (w ∷ us) h e = at_step s p first w us (step s w us) h refl (λ t k. from-position t (suc p) k p us) e

  pub refused_at_lem : (s : State) → walk s 0 0 l ≡ refused f → RefusedAt l f
  refused_at_lem s e = from-position s 0 0 0 l (whole l) e
