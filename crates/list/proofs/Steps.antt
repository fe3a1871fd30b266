-- One step of the walk, and the walk from a cursor on.
use Prim.Native.Nat.{ℕ, suc, ◌+◌, ◌^◌, ◌≤◌, ◌<◌}
use native.Mathlib.Nat.{add-zero, zero-add}
use native.Mathlib.Omega.{arith}
use mathlib.Core.Path.{◌≡◌, refl, ap, ap₂, sym, ◌∙◌, subst}
use mathlib.Core.Bool.{Bool, true, false, cond}
use mathlib.Core.List.{List, [], ◌∷◌}
use lib.ListN.{length, get_or, drop, length-drop}
use Rattle.rules.specs.Verdict.{Refusal}
use Rattle.rules.specs.Table.{plain, begins, is_setting, is_begin}
use Rattle.rules.specs.Command.{Command}
use Rattle.rules.specs.Values.{shift, Fault, first_fault}
use Rattle.rules.specs.Decode.{Decoded, bad, good, decode}
use Rattle.rules.specs.Walk.{State, start, order_faults, order_after, next, Step, stop, took, step_decoded, step, Parsed, refused, accepted, and_then, onward, walk}
use Rattle.rules.specs.Records.{records}
use Rattle.theory.proofs.Valid.{first_holds, first-told}
use Rattle.theory.proofs.Parse.{decode-read, step-took}
use Rattle.theory.proofs.Walk.{walk_at, walk_end}
use Rattle.std.specs.Prelude.{Result, Ok, Err}
use Rattle.command.specs.declared.Command.{Command as Kept}
use Rattle.command.specs.View.{kept, decoded_at}
use Rattle.command.specs.View.{view as viewDecoded}
use Rattle.list.specs.declared.Cursor.{Cursor}
use Rattle.list.specs.declared.Counts.{Counts}
use Rattle.list.specs.View.{origin, Counted, InsideAfter, after, kept_faults, refuse_at, ordered, advanced, taken, StandsFor, behind, view, step_at, Steps, walked_of, Walks}

-- ---- one step

-- a command in order is the one given
pub inside-ordered : (c : Cursor) (d : Result Kept Refusal) → InsideAfter c d → InsideAfter c (ordered c d)
inside-ordered c (Err f) h = tt
inside-ordered c (Ok k) h = first_holds (InsideAfter c) (refuse_at c) (λ f. tt) (kept_faults c k) (Ok k) h

pub kept_begin : (b : Bool) → is_begin (cond b begins plain) ≡ b
kept_begin true = refl
kept_begin false = refl

-- what a cursor stands for: the rules on order find the same of a command, and the cursor after it stands for the state there
module _ (c : Cursor) (s : State) (a : StandsFor c s) (d : Command) where
  faults_are : kept_faults c (kept d) ≡ order_faults s d
  unfolding order_faults
  faults_are = rw (a.flip, kept_begin (is_begin d.row.kind))

  after_is : after c (kept d) ≡ behind c d (next s d)
  unfolding order_after
  after_is = refl

  stands_behind : (t : State) → StandsFor (behind c d t) t
  stands_behind t = record { flip = refl }

module _ (l : List ℕ) (c : Cursor) where
  abbrev w : ℕ
  w = get_or l c.at 0

  abbrev ws : List ℕ
  ws = drop (suc c.at) l

  by_decoded : (s : State) → StandsFor c s → (x : Decoded) → taken c (viewDecoded c.at x) ≡ view c (step_decoded s x)
  by_decoded s a (bad f) = refl
  by_decoded s a (good d) =
      first-told (advanced c) (refuse_at c) (kept_faults c (kept d)) (Ok (kept d))
      ∙ ap₂ (λ (fs : List Fault) (e : Cursor). first_fault (λ f. Err (shift c.at f)) fs (Ok e)) (faults_are c s a d) (after_is c s a d)
      ∙ sym (first-told (view c) stop (order_faults s d) (took d (next s d)))

  -- a step takes the decoded command
  pub step-taken : (d : Result Kept Refusal) → d ≡ decoded_at l c.at → Steps l c (taken c d)
  unfolding step_at step decoded_at
  step-taken d e = λ s a. ap (taken c) e ∙ by_decoded s a (decode w ws)

  inside_decoded : (x : Decoded) → decode w ws ≡ x → length l < 2 ^ 62 → c.at < length l → InsideAfter c (viewDecoded c.at x)
  inside_decoded (bad f) e long inside = tt
  inside_decoded (good d) e long inside = omega (arith, (decode-read w ws d e).enough, length-drop (suc c.at) l)

  pub inside-after : (d : Result Kept Refusal) → d ≡ decoded_at l c.at → length l < 2 ^ 62 → c.at < length l → InsideAfter c d
  unfolding decoded_at
  inside-after d e long inside = rw e (inside_decoded (decode w ws) refl long inside)

-- ---- the walk

-- the walk from a cursor on, with what the cursor has counted
abbrev resume : Cursor → Parsed → Result Counts Refusal
resume c (refused f) = Err f
resume c (accepted cs) = Ok (record { commands = c.commands + length cs; records = c.records + length (records 0 cs) })

length-records : (p q : ℕ) (cs : List Command) → length (records p cs) ≡ length (records q cs)
length-records p q [] = refl
length-records p q (c ∷ cs) =
    let n : ℕ = suc (length c.rest) in
    elim (is_setting c.row.kind) as (λ t. length (cond t (records (p + n) cs) (record { id = c.row.id; position = p; size = n; header = c.header } ∷ records (p + n) cs))
    ≡ length (cond t (records (q + n) cs) (record { id = c.row.id; position = q; size = n; header = c.header } ∷ records (q + n) cs))) [
      | true ↦ length-records (p + n) (q + n) cs
      | false ↦ ap suc (length-records (p + n) (q + n) cs)
    ]

record_count_lem : (p : ℕ) (c : Command) (cs : List Command) → length (records p (c ∷ cs)) ≡ cond (is_setting c.row.kind) 0 1 + length (records 0 cs)
record_count_lem p c cs =
    let n : ℕ = suc (length c.rest) in
    elim (is_setting c.row.kind) as (λ t. length (cond t (records (p + n) cs) (record { id = c.row.id; position = p; size = n; header = c.header } ∷ records (p + n) cs))
    ≡ cond t 0 1 + length (records 0 cs)) [
      | true ↦ length-records (p + n) 0 cs ∙ sym (zero-add (length (records 0 cs)))
      | false ↦ omega (arith, length-records (p + n) 0 cs)
    ]

resume_then : (c e : Cursor) (d : Command) (x : Parsed) → e.commands ≡ c.commands + 1 → e.records ≡ c.records + cond (is_setting d.row.kind) 0 1
    → resume c (and_then d x) ≡ resume e x
resume_then c e d (refused f) ec er = refl
resume_then c e d (accepted cs) ec er =
    ap₂ {C = Result Counts Refusal} (λ a b. Ok (record { commands = a; records = b })) (omega arith) (omega (arith, record_count_lem 0 d cs))

resume_origin : (x : Parsed) → walked_of x ≡ resume origin x
resume_origin (refused f) = refl
resume_origin (accepted cs) = ap₂ {C = Result Counts Refusal} (λ a b. Ok (record { commands = a; records = b })) (sym (zero-add (length cs))) (sym (zero-add (length (records 0 cs))))

-- the walk from a state, as far as a cursor: it gives what the rest gives from the state met there
record From (s : State) (l : List ℕ) (c : Cursor) : Type 0 where
  counted : Counted c
  inside : c.at ≤ length l
  met : State
  stands : StandsFor c met
  same : walked_of (walk s 0 0 l) ≡ resume c (walk met c.at 0 (drop c.at l))

-- the same from every state that the first cursor stands for
pub Walking : List ℕ → Cursor → Type 0
Walking l c = (s : State) → StandsFor origin s → From s l c

pub walking_start : (l : List ℕ) → Walking l origin
unfolding Walking
walking_start l s a = record {
  counted = record { work = omega arith; some = omega arith };
  inside = omega arith;
  met = s;
  stands = a;
  same = resume_origin (walk s 0 0 l);
}

-- before the first command the cursor stands for the start from any image
pub at_start : (image : List ℕ) → StandsFor origin (start image)
at_start image = record { flip = refl }

pub walking_counted : (l : List ℕ) (c : Cursor) → Walking l c → Counted c
unfolding Walking
walking_counted l c g = (g (start []) (at_start [])).counted

pub at_most_one : (b : Bool) → cond b 0 1 ≤ 1
at_most_one true = omega arith
at_most_one false = omega arith

module _ (l : List ℕ) (c : Cursor) (h : c.at < length l) where
  turn : Step → Parsed
  turn x = onward c.at (λ t k. walk t (suc c.at + k) 0 (drop (suc c.at + k) l)) x

  by_stop : (x : Step) (f : Refusal) → view c x ≡ Err f → resume c (turn x) ≡ Err f
  unfolding turn
  by_stop (stop g) f e = cc
  by_stop (took d t) f e = let z : ◌≡◌ {A = ℕ} 0 1 = cc in absurd (omega arith)

  module _ (s : State) (g : From s l c) where
    abbrev stepped : Step
    stepped = step g.met (get_or l c.at 0) (drop (suc c.at) l)

    from-stop : (f : Refusal) → Steps l c (Err f) → walked_of (walk s 0 0 l) ≡ Err f
    unfolding step_at turn
    from-stop f q = g.same ∙ ap (resume c) (walk_at g.met c.at l h) ∙ by_stop stepped f (sym (q g.met g.stands))

    -- one command on
    from-behind : (d : Command) (t : State) → stepped ≡ took d t → (c.at < (behind c d t).at) × From s l (behind c d t)
    unfolding turn
    from-behind d t ex =
        let e : Cursor = behind c d t in
        let k = step-took g.met (get_or l c.at 0) (drop (suc c.at) l) d t ex in
        let b = at_most_one (is_setting d.row.kind) in
        let n : ℕ = suc c.at + length d.rest in
        let en : n ≡ e.at = omega arith in (
          omega arith,
          record {
            counted = record { work = omega (arith, g.counted.work); some = omega (arith, g.counted.some) };
            inside = omega (arith, k.read.enough, length-drop (suc c.at) l);
            met = t;
            stands = stands_behind c g.met g.stands d t;
            same = g.same ∙ ap (resume c) (walk_at g.met c.at l h ∙ ap turn ex)
                ∙ resume_then c e d (walk t n 0 (drop n l)) refl refl
                ∙ ap (λ (m : ℕ). resume e (walk t m 0 (drop m l))) en;
          },
        )

    by_on : (x : Step) → stepped ≡ x → (e : Cursor) → Ok e ≡ view c x → (c.at < e.at) × From s l e
    by_on (stop f) ex e q = let z : ◌≡◌ {A = ℕ} 0 1 = cc in absurd (omega arith)
    by_on (took d t) ex e q =
        let is : behind c d t ≡ e = cc in
        subst (λ (y : Cursor). (c.at < y.at) × From s l y) is (from-behind d t ex)

    from_on : (e : Cursor) → Steps l c (Ok e) → (c.at < e.at) × From s l e
    unfolding step_at
    from_on e q = by_on stepped refl e (q g.met g.stands)

  pub walking_stop : (f : Refusal) → Walking l c → Steps l c (Err f) → Walks (λ s. walk s 0 0 l) (Err f)
  unfolding Walking
  walking_stop f g q s a = sym (from-stop s (g s a) f q)

  pub walking_on : (e : Cursor) → Walking l c → Steps l c (Ok e) → (c.at < e.at) × Walking l e
  unfolding Walking
  walking_on e g q = ((from_on (start []) (g (start []) (at_start [])) e q).0, λ s a. (from_on s (g s a) e q).1)

pub walking_end : (l : List ℕ) (c : Cursor) → Walking l c → length l ≤ c.at → Walks (λ s. walk s 0 0 l) (Ok (record { commands = c.commands; records = c.records }))
unfolding Walking
walking_end l c g h s a =
    let f = g s a in
    sym (f.same ∙ ap (resume c) (walk_end f.met c.at l h) ∙ rw (add-zero c.commands, add-zero c.records))
