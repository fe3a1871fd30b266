-- The answers, by what the first pass found.
use Prim.Native.Nat.{ℕ, ◌+◌, ◌≤◌, ◌<◌}
use native.Mathlib.Omega.{arith}
use mathlib.Core.Path.{◌≡◌, refl, ap, sym, ◌∙◌}
use mathlib.Core.List.{List, ◌++◌}
use mathlib.Core.Bool.{Bool, true, false, cond}
use borrow.Author.Tests.{lt-ltb, le-ltb}
use lib.ListN.{length, drop}
use lib.Seq.{sets, sets-eq}
use Rattle.rules.specs.Verdict.{Refusal}
use Rattle.rules.specs.Command.{Command}
use Rattle.rules.specs.Values.{refusal}
use Rattle.rules.specs.Walk.{Parsed, refused, accepted, sized}
use Rattle.rules.specs.Records.{records}
use Rattle.rules.specs.Answer.{accepted_answer, write_parsed, refuse, commands_of}
use Rattle.std.specs.Prelude.{Result, Ok, Err}
use Rattle.list.specs.declared.Counts.{Counts as Counted}
use Rattle.list.specs.View.{walked_of}

-- an accepted list has the counts that were found
pub record Counts (x : Parsed) (c k : ℕ) : Type 0 where
  pub is : x ≡ accepted (commands_of x)
  pub commands : length (commands_of x) ≡ c
  pub records_are : length (records 0 (commands_of x)) ≡ k

pub counts : (x : Parsed) (c k : ℕ) → walked_of x ≡ Ok (record { commands = c; records = k }) → Counts x c k
counts (refused f) c k e = let z : ◌≡◌ {A = ℕ} 0 1 = cc in absurd (omega arith)
counts (accepted cs) c k e =
    let e' : ◌≡◌ {A = Counted} (record { commands = length cs; records = length (records 0 cs) }) (record { commands = c; records = k }) = cc in
    record { is = refl; commands = ap (λ (x : Counted). x.commands) e'; records_are = ap (λ (x : Counted). x.records) e' }

-- 1 and 2 come before all else
module _ (x : Parsed) where
  abbrev pub tested : Bool → Bool → Result (Unit {0}) Refusal
  tested long wrong = cond long (Err (refusal 1 4096)) (cond wrong (Err (refusal 2 0)) (Ok (tt {0})))

  pub sized_refused : (long wrong : Bool) (f : Refusal) → tested long wrong ≡ Err f → walked_of (sized long wrong x) ≡ Err f
  sized_refused true wrong f e = let g : refusal 1 4096 ≡ f = cc in ap Err g
  sized_refused false true f e = let g : refusal 2 0 ≡ f = cc in ap Err g
  sized_refused false false f e = let z : ◌≡◌ {A = ℕ} 0 1 = cc in absurd (omega arith)

  pub sized_passed : (long wrong : Bool) → tested long wrong ≡ Ok (tt {0}) → sized long wrong x ≡ x
  sized_passed true wrong e = let z : ◌≡◌ {A = ℕ} 0 1 = cc in absurd (omega arith)
  sized_passed false true e = let z : ◌≡◌ {A = ℕ} 0 1 = cc in absurd (omega arith)
  sized_passed false false e = refl

-- words put at the front of a buffer
pub put_front : (buffer ws : List ℕ) → length ws ≤ length buffer → sets buffer 0 ws ≡ ws ++ drop (length ws) buffer
put_front buffer ws h = let z : 0 + length ws ≡ length ws = omega arith in sets-eq ws buffer 0 (omega arith) ∙ ap (λ (n : ℕ). ws ++ drop n buffer) z

-- the answer of a call that only reads the image and writes words made of the commands
module _ (made : List Command → List ℕ) (ws image buffer : List ℕ) where
  -- the refusals of the first pass
  pub answer-refused : (x : Parsed) (f : Refusal) → walked_of x ≡ Err f → refuse f image buffer ≡ write_parsed made ws image buffer x
  answer-refused (refused g) f e = let eg : f ≡ g = cc in ap (λ (x : Refusal). refuse x image buffer) eg
  answer-refused (accepted cs) f e = let z : ◌≡◌ {A = ℕ} 0 1 = cc in absurd (omega arith)

  module _ (x : Parsed) (c k : ℕ) (e : walked_of x ≡ Ok (record { commands = c; records = k })) where
    found : Counts x c k
    found = counts x c k e

    -- 11
    pub answer-short : length buffer < length (made (commands_of x)) → refuse (refusal 11 (length ws)) image buffer ≡ write_parsed made ws image buffer x
    answer-short h = sym (ap (write_parsed made ws image buffer) found.is ∙ rw (lt-ltb (length buffer) (length (made (commands_of x))) h))

    -- 0, with the words written
    pub answer-done : (m : ℕ) → length (made (commands_of x)) ≡ m → m ≤ length buffer
        → record {
          answer = accepted_answer (length ws) c k m;
          image = image;
          buffer = sets buffer 0 (made (commands_of x));
        } ≡ write_parsed made ws image buffer x
    answer-done m em h =
        let fits : length (made (commands_of x)) ≤ length buffer = omega arith in
        sym (ap (write_parsed made ws image buffer) found.is
        ∙ rw (le-ltb (length buffer) (length (made (commands_of x))) fits, ← put_front buffer (made (commands_of x)) fits, em, found.commands, found.records_are))
