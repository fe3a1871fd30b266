-- Several lists in one call: the laws of one more pair, carried along the table.
use Prim.Native.Nat.{ℕ, suc, ◌+◌, ◌-◌, ◌*◌, ◌/◌, ◌≤◌, ◌<◌}
use native.Mathlib.Omega.{arith}
use native.Mathlib.Nat.{add-zero, zero-add}
use mathlib.Core.Path.{◌≡◌, refl, ap, sym, ◌∙◌, subst}
use mathlib.Core.Bool.{Bool, true, false, cond}
use mathlib.Core.Logic.{◌↔◌}
use mathlib.Core.List.{List, [], ◌∷◌, ◌++◌}
use lib.Dec.{eqb, leb, ltb}
use borrow.Author.Tests.{eq-eqb, ne_eqb, eqb-true, eqb-false, leb-false, ltb-false, le-ltb}
use lib.ListN.{length, get_or, take, drop, length-append, length-drop, take-append-drop}
use lib.Seq.{length-take-le, drop-append-add, drop-cons, drop-drop}
use Rattle.rules.specs.Verdict.{Answer}
use Rattle.rules.specs.Verdict.{SessionAnswer}
use Rattle.rules.specs.Values.{refusal}
use Rattle.rules.specs.Answer.{Outcome, refusal_of, tells_bit, refuse, reading}
use Rattle.rules.specs.Session.{SessionOutcome, opened, added, left, part, outside, pair_call, with_pair, with_pair_of, turn, read_from, reading_scenes, Bounded, as_session, SameApplied, first_pairs, next_pair, StopsAt}
use Rattle.theory.proofs.Bools.{neither}
use Rattle.theory.proofs.Outcomes.{reading-refuses, reading_never, reading_tells}
use Rattle.theory.proofs.Counts.{Counts, counts_refused, reading_counts}

-- ---- the call for a pair

-- neither of the two tests for 20 holds
pub inside : (ws : List ℕ) (start n lists : ℕ) → outside ws start n lists ≡ false → (lists < 4096) × (start + n ≤ length ws)
inside ws start n lists e =
    let t = neither (leb 4096 lists) (ltb (length ws) (start + n)) e in
    (leb-false 4096 lists t.0, ltb-false (length ws) (start + n) t.1)

module _ (ws : List ℕ) (start n lists : ℕ) (image buffer : List ℕ) where
  -- what holds of 20 and of the reader
  by_call : (P : Outcome → Type 0) → P (refuse (refusal 20 0) image buffer) → (outside ws start n lists ≡ false → P (reading (part ws start n) image buffer))
      → P (pair_call ws start n lists image buffer)
  unfolding pair_call
  by_call P p q = (elim (outside ws start n lists) as (λ t. outside ws start n lists ≡ t → P (cond t (refuse (refusal 20 0) image buffer) (reading (part ws start n) image buffer))) [
    | true ↦ λ e. p
    | false ↦ λ e. q e
  ]) refl

  pub call_counts : Counts (pair_call ws start n lists image buffer) buffer
  call_counts = by_call (λ o. Counts o buffer) (counts_refused (refusal 20 0) image buffer (omega arith)) (λ e. reading_counts (part ws start n) image buffer)

  call-refuses : ((pair_call ws start n lists image buffer).answer.verdict ≡ 0 → ⊥)
      → pair_call ws start n lists image buffer ≡ refuse (refusal_of (pair_call ws start n lists image buffer).answer) image buffer
  call-refuses = by_call (λ o. (o.answer.verdict ≡ 0 → ⊥) → o ≡ refuse (refusal_of o.answer) image buffer) (λ z. refl) (λ e. reading-refuses (part ws start n) image buffer)

  call_tells : tells_bit (pair_call ws start n lists image buffer).answer ≡ true
  call_tells = by_call (λ o. tells_bit o.answer ≡ true) refl (λ e. reading_tells (part ws start n) image buffer)

  -- a list is applied: its pair is one of the first 4,096
  call-few : (pair_call ws start n lists image buffer).answer.verdict ≡ 0 → lists < 4096
  call-few = by_call (λ o. o.answer.verdict ≡ 0 → lists < 4096) (λ z. let f : ◌≡◌ {A = ℕ} 20 0 = z in absurd (omega arith)) (λ e z. (inside ws start n lists e).0)

  -- 20 exactly where one of the two tests holds, and then at 0
  pub call_twenty : ((pair_call ws start n lists image buffer).answer.verdict ≡ 20) ↔ (outside ws start n lists ≡ true)
  unfolding pair_call
  call_twenty = (
    (elim (outside ws start n lists) as (λ t. (cond t (refuse (refusal 20 0) image buffer) (reading (part ws start n) image buffer)).answer.verdict ≡ 20 → t ≡ true) [
      | true ↦ λ e. refl
      | false ↦ λ e. absurd (reading_never 20 refl (part ws start n) image buffer e)
    ]),
    λ e. ap (λ (t : Bool). (cond t (refuse (refusal 20 0) image buffer) (reading (part ws start n) image buffer)).answer.verdict) e,
  )

  pub call_at_zero : (pair_call ws start n lists image buffer).answer.verdict ≡ 20 → (pair_call ws start n lists image buffer).answer.position ≡ 0
  call_at_zero = by_call (λ o. o.answer.verdict ≡ 20 → o.answer.position ≡ 0) (λ e. refl) (λ t e. absurd (reading_never 20 refl (part ws start n) image buffer e))

  -- every other answer is the reader's
  pub call_reads : ((pair_call ws start n lists image buffer).answer.verdict ≡ 20 → ⊥) → pair_call ws start n lists image buffer ≡ reading (part ws start n) image buffer
  call_reads = by_call (λ o. (o.answer.verdict ≡ 20 → ⊥) → o ≡ reading (part ws start n) image buffer) (λ e. absurd (e refl)) (λ t e. refl)

-- ---- one pair more

-- the sums with a call more
added_bounded : (s : SessionAnswer) (a : Answer) → Bounded s → (a.verdict ≡ 0 → s.lists < 4096) → a.commands ≤ 4096 → a.records ≤ 4096 → a.words ≡ 4 * a.records
    → ((a.verdict ≡ 0 → ⊥) → (a.commands ≡ 0) × (a.records ≡ 0)) → Bounded (added s a)
added_bounded s a b few c r w none =
    let sums : Answer = (added s a).answer in
    (elim (eqb a.verdict 0) as (λ t. eqb a.verdict 0 ≡ t → Bounded (record { answer = sums; lists = s.lists + cond t 1 0 })) [
      | true ↦ λ e. record {
        lists = omega (arith, few (eqb-true a.verdict 0 e));
        commands = omega (arith, b.commands, c);
        records = omega (arith, b.records, r);
        words = omega (arith, b.words, w);
      }
      | false ↦ λ e. record {
        lists = omega (arith, b.lists);
        commands = omega (arith, b.commands, none (eqb-false a.verdict 0 e));
        records = omega (arith, b.records, none (eqb-false a.verdict 0 e));
        words = omega (arith, b.words, w);
      }
    ]) refl

-- what holds of a session wherever it stands: its numbers, its bit, and the buffer, which has the words of before behind those written
pub record Sound (buffer : List ℕ) (s : SessionOutcome) : Type 0 where
  pub bounded : Bounded s.session
  pub position : s.session.answer.position ≤ 4098
  pub tells : tells_bit s.session.answer ≡ true
  pub fits : s.session.answer.words ≤ length s.buffer
  pub behind : left s ≡ drop s.session.answer.words buffer
  pub long : length s.buffer ≡ length buffer

pub sound_opened : (image buffer : List ℕ) → Sound buffer (opened image buffer)
sound_opened image buffer = record {
  bounded = record { lists = omega arith; commands = omega arith; records = omega arith; words = refl };
  position = omega arith;
  tells = refl;
  fits = omega arith;
  behind = refl;
  long = refl;
}

module _ (ws : List ℕ) (start n : ℕ) (s : SessionOutcome) where
  call : Outcome
  call = pair_call ws start n s.session.lists s.image (left s)

  pub sound_pair : (buffer : List ℕ) → Sound buffer s → Sound buffer (with_pair ws start n s)
  unfolding call
  sound_pair buffer h =
      let c = call_counts ws start n s.session.lists s.image (left s) in
      let u : ℕ = s.session.answer.words in
      let w : ℕ = call.answer.words in
      let front : List ℕ = take u s.buffer in
      let u-is : length front ≡ u = length-take-le u s.buffer h.fits in
      let rest = length-drop u s.buffer in
      let whole : length (front ++ call.buffer) ≡ length s.buffer = omega (arith, length-append front call.buffer, u-is, rest, c.long, h.fits) in
      record {
        bounded = added_bounded s.session call.answer h.bounded (call-few ws start n s.session.lists s.image (left s)) c.commands c.records c.words
            (λ z. let r = call-refuses ws start n s.session.lists s.image (left s) z in
            (ap (λ (o : Outcome). o.answer.commands) r, ap (λ (o : Outcome). o.answer.records) r));
        position = c.position;
        tells = call_tells ws start n s.session.lists s.image (left s);
        fits = omega (arith, whole, c.fits, rest, h.fits);
        behind = ap (λ (k : ℕ). drop (k + w) (front ++ call.buffer)) (sym u-is) ∙ drop-append-add front call.buffer w ∙ c.behind ∙ ap (drop w) h.behind ∙ drop-drop w u buffer;
        long = whole ∙ h.long;
      }

  -- a refusal changes nothing more: what is told of the lists applied, the image and the buffer are as before
  pub pair_refused : ((with_pair ws start n s).session.answer.verdict ≡ 0 → ⊥) → SameApplied (with_pair ws start n s) s
  unfolding call
  pair_refused z =
      let r = call-refuses ws start n s.session.lists s.image (left s) z in
      record {
        commands = ap (λ (o : Outcome). s.session.answer.commands + o.answer.commands) r ∙ add-zero s.session.answer.commands;
        records = ap (λ (o : Outcome). s.session.answer.records + o.answer.records) r ∙ add-zero s.session.answer.records;
        words = ap (λ (o : Outcome). s.session.answer.words + o.answer.words) r ∙ add-zero s.session.answer.words;
        lists = ap (λ (t : Bool). s.session.lists + cond t 1 0) (ne_eqb call.answer.verdict 0 z) ∙ add-zero s.session.lists;
        image = ap (λ (o : Outcome). o.image) r;
        buffer = ap (λ (o : Outcome). take s.session.answer.words s.buffer ++ o.buffer) r ∙ take-append-drop s.session.answer.words s.buffer;
      }

  -- a list applied is one more
  pub pair_applied : (with_pair ws start n s).session.answer.verdict ≡ 0 → (with_pair ws start n s).session.lists ≡ s.session.lists + 1
  pair_applied z = ap (λ (t : Bool). s.session.lists + cond t 1 0) (eq-eqb _ 0 z)

  -- its turn, where all lists before were applied
  turn_is : s.session.answer.verdict ≡ 0 → turn ws start n s ≡ with_pair ws start n s
  unfolding turn
  turn_is z = rw (eq-eqb s.session.answer.verdict 0 z)

  -- and where one was refused
  turn_stopped : (s.session.answer.verdict ≡ 0 → ⊥) → turn ws start n s ≡ s
  unfolding turn
  turn_stopped z = rw (ne_eqb s.session.answer.verdict 0 z)

  -- no list was refused before one that is applied
  turn-accepted : (turn ws start n s).session.answer.verdict ≡ 0 → s.session.answer.verdict ≡ 0
  turn-accepted z = (elim (eqb s.session.answer.verdict 0) as (λ t. eqb s.session.answer.verdict 0 ≡ t → s.session.answer.verdict ≡ 0) [
    | true ↦ λ e. eqb-true s.session.answer.verdict 0 e
    | false ↦ λ e. ap (λ (o : SessionOutcome). o.session.answer.verdict) (sym (turn_stopped (eqb-false s.session.answer.verdict 0 e))) ∙ z
  ]) refl

  sound_turn : (buffer : List ℕ) → Sound buffer s → Sound buffer (turn ws start n s)
  unfolding turn
  sound_turn buffer h = (elim (eqb s.session.answer.verdict 0) as (λ t. Sound buffer (cond t (with_pair ws start n s) s)) [ true ↦ sound_pair buffer h | false ↦ h ])

-- ---- the pairs in turn

module _ (ws : List ℕ) where
  sound_from : (table buffer : List ℕ) (s : SessionOutcome) → Sound buffer s → Sound buffer (read_from ws table s)
  unfolding read_from
  sound_from [] buffer s h = h
  sound_from (a ∷ []) buffer s h = h
  sound_from (start ∷ n ∷ table) buffer s h = sound_from table buffer (turn ws start n s) (sound_turn ws start n s buffer h)

  pub from_stopped : (table : List ℕ) (s : SessionOutcome) → (s.session.answer.verdict ≡ 0 → ⊥) → read_from ws table s ≡ s
  unfolding read_from
  from_stopped [] s z = refl
  from_stopped (a ∷ []) s z = refl
  from_stopped (start ∷ n ∷ table) s z = ap (read_from ws table) (turn_stopped ws start n s z) ∙ from_stopped table s z

  -- behind the last pair there is at most an odd word
  pub from_end : (table : List ℕ) (s : SessionOutcome) → length table ≤ 1 → read_from ws table s ≡ s
  unfolding read_from
  from_end [] s h = refl
  from_end (a ∷ []) s h = refl
  from_end (start ∷ n ∷ table) s h = absurd (omega arith)

  -- behind whole pairs
  pub from_cut : (front table : List ℕ) (k : ℕ) (s : SessionOutcome) → length front ≡ 2 * k → read_from ws (front ++ table) s ≡ read_from ws table (read_from ws front s)
  unfolding read_from
  from_cut [] table k s e = refl
  from_cut (a ∷ []) table k s e = absurd (omega (arith, e))
  from_cut (start ∷ n ∷ front) table k s e = from_cut front table (k - 1) (turn ws start n s) (omega (arith, e))

  -- a session is refused: all pairs before are accepted, and the call for the next one is the one that refuses
  record Stops (table : List ℕ) (s : SessionOutcome) : Type 0 where
    pub pairs : ℕ
    pub there : pairs < length table / 2
    pub accepted-before : (read_from ws (take (2 * pairs) table) s).session.answer.verdict ≡ 0
    pub lists : (read_from ws (take (2 * pairs) table) s).session.lists ≡ s.session.lists + pairs
    pub is : read_from ws table s ≡ with_pair_of ws table pairs (read_from ws (take (2 * pairs) table) s)

  -- at the first pair
  stops_here : (start n : ℕ) (table : List ℕ) (s : SessionOutcome) → s.session.answer.verdict ≡ 0
      → ((with_pair ws start n s).session.answer.verdict ≡ 0 → ⊥) → Stops (start ∷ n ∷ table) s
  unfolding read_from
  stops_here start n table s z r = record {
    pairs = 0;
    there = omega arith;
    accepted-before = z;
    lists = sym (add-zero s.session.lists);
    is = ap (read_from ws table) (turn_is ws start n s z) ∙ from_stopped table (with_pair ws start n s) r;
  }

  -- or at a later one
  stops_later : (start n : ℕ) (table : List ℕ) (s : SessionOutcome) → s.session.answer.verdict ≡ 0
      → (with_pair ws start n s).session.answer.verdict ≡ 0 → Stops table (turn ws start n s) → Stops (start ∷ n ∷ table) s
  unfolding read_from
  stops_later start n table s z a l =
      let k : ℕ = l.pairs in
      let e : 2 * suc k ≡ suc (suc (2 * k)) = omega arith in
      let e' : suc (suc (2 * k)) + 1 ≡ suc (suc (2 * k + 1)) = omega arith in
      record {
        pairs = suc k;
        there = omega (arith, l.there);
        accepted-before = rw e l.accepted-before;
        lists = rw e (l.lists ∙ ap (λ (t : SessionOutcome). t.session.lists + k) (turn_is ws start n s z) ∙ omega (arith, pair_applied ws start n s a));
        is = rw (e, e') l.is;
      }

  stops : (table : List ℕ) (s : SessionOutcome) → s.session.answer.verdict ≡ 0 → ((read_from ws table s).session.answer.verdict ≡ 0 → ⊥) → Stops table s
  unfolding read_from
  stops [] s z r = absurd (r z)
  stops (a ∷ []) s z r = absurd (r z)
  stops (start ∷ n ∷ table) s z r =
      let t = turn_is ws start n s z in
      (elim (eqb (with_pair ws start n s).session.answer.verdict 0) as (λ b. eqb (with_pair ws start n s).session.answer.verdict 0 ≡ b → Stops (start ∷ n ∷ table) s) [
        | true ↦ λ e. let a = eqb-true _ 0 e in
            stops_later start n table s z a (stops table (turn ws start n s) (ap (λ (o : SessionOutcome). o.session.answer.verdict) t ∙ a) r)
        | false ↦ λ e. stops_here start n table s z (eqb-false _ 0 e)
      ]) refl

  -- a session that is accepted has applied the list of each pair
  accepts : (table : List ℕ) (s : SessionOutcome) → (read_from ws table s).session.answer.verdict ≡ 0
      → (s.session.answer.verdict ≡ 0) × ((read_from ws table s).session.lists ≡ s.session.lists + length table / 2)
  unfolding read_from
  accepts [] s a = (a, omega arith)
  accepts (w ∷ []) s a = (a, omega arith)
  accepts (start ∷ n ∷ table) s a =
      let later = accepts table (turn ws start n s) a in
      let z = turn-accepted ws start n s later.0 in
      let t = turn_is ws start n s z in
      (z, omega (arith, later.1, ap (λ (o : SessionOutcome). o.session.lists) t, pair_applied ws start n s (ap (λ (o : SessionOutcome). o.session.answer.verdict) (sym t) ∙ later.0)))

pub scenes_sound : (ws table image buffer : List ℕ) → Sound buffer (reading_scenes ws table image buffer)
unfolding reading_scenes
scenes_sound ws table image buffer = sound_from ws table buffer (opened image buffer) (sound_opened image buffer)

-- ---- the whole call

-- two words of a table from pair k on, and what follows
pair_at : (table : List ℕ) (k : ℕ) → k < length table / 2 → drop (2 * k) table ≡ get_or table (2 * k) 0 ∷ get_or table (2 * k + 1) 0 ∷ drop (2 * (k + 1)) table
pair_at table k h =
    let n : 2 * (k + 1) ≡ suc (suc (2 * k)) = omega arith in
    let m : 2 * k + 1 ≡ suc (2 * k) = omega arith in
    drop-cons table (2 * k) 0 (omega arith)
    ∙ ap {B = List ℕ} (λ l. get_or table (2 * k) 0 ∷ l) (drop-cons table (suc (2 * k)) 0 (omega arith))
    ∙ rw (n, m)

-- the pair behind those that are accepted
pub from_pair : (ws table : List ℕ) (k : ℕ) (s : SessionOutcome) → k < length table / 2 → s.session.answer.verdict ≡ 0
    → read_from ws (drop (2 * k) table) s ≡ read_from ws (drop (2 * (k + 1)) table) (with_pair_of ws table k s)
unfolding read_from
from_pair ws table k s h z =
    ap (λ (l : List ℕ). read_from ws l s) (pair_at table k h)
    ∙ ap (read_from ws (drop (2 * (k + 1)) table)) (turn_is ws (get_or table (2 * k) 0) (get_or table (2 * k + 1) 0) s z)

module _ (ws table image buffer : List ℕ) where
  abbrev whole : SessionOutcome
  whole = reading_scenes ws table image buffer

  pub whole_stops : (whole.session.answer.verdict ≡ 0 → ⊥) → StopsAt ws table image buffer whole.session.lists
  unfolding reading_scenes
  whole_stops z =
      let t = stops ws table (opened image buffer) refl z in
      let lists-are : whole.session.lists ≡ t.pairs =
      ap (λ (o : SessionOutcome). o.session.lists) t.is
      ∙ (pair_refused ws _ _ (first_pairs ws table image buffer t.pairs) (λ e. z (ap (λ (o : SessionOutcome). o.session.answer.verdict) t.is ∙ e))).lists ∙ t.lists ∙ zero-add t.pairs in
      subst (StopsAt ws table image buffer) (sym lists-are) (record { there = t.there; accepted-before = t.accepted-before; is = t.is })

  -- a pair behind accepted ones whose call refuses is that end
  pub stops_at : (k : ℕ) → k < length table / 2 → (first_pairs ws table image buffer k).session.answer.verdict ≡ 0 → ((next_pair ws table image buffer k).session.answer.verdict ≡ 0 → ⊥) → StopsAt ws table image buffer k
  unfolding reading_scenes
  stops_at k h z r = record {
    there = h;
    accepted-before = z;
    is = ap (λ (l : List ℕ). read_from ws l (opened image buffer)) (sym (take-append-drop (2 * k) table))
        ∙ from_cut ws (take (2 * k) table) (drop (2 * k) table) k (opened image buffer) (length-take-le (2 * k) table (omega arith))
        ∙ from_pair ws table k (first_pairs ws table image buffer k) h z ∙ from_stopped ws (drop (2 * (k + 1)) table) (next_pair ws table image buffer k) r;
  }

  pub whole-accepted : whole.session.answer.verdict ≡ 0 → whole.session.lists ≡ length table / 2
  unfolding reading_scenes
  whole-accepted z = (accepts ws table (opened image buffer) z).1 ∙ zero-add (length table / 2)

  -- a pair more is a list more
  pub first-lists : (k : ℕ) → k ≤ length table / 2 → (first_pairs ws table image buffer k).session.answer.verdict ≡ 0 → (first_pairs ws table image buffer k).session.lists ≡ k
  unfolding reading_scenes
  first-lists k h z = (accepts ws (take (2 * k) table) (opened image buffer) z).1 ∙ omega (arith, length-take-le (2 * k) table (omega arith))

-- a session of one pair
pub one_pair : (ws image buffer : List ℕ) (start n : ℕ) → start + n ≤ length ws
    → reading_scenes ws (start ∷ n ∷ []) image buffer ≡ as_session (reading (part ws start n) image buffer)
unfolding reading_scenes read_from turn pair_call
one_pair ws image buffer start n h =
    let o = reading (part ws start n) image buffer in
    rw (le-ltb (length ws) (start + n) h, zero-add o.answer.commands, zero-add o.answer.records, zero-add o.answer.words, zero-add (cond (eqb o.answer.verdict 0) 1 0))
