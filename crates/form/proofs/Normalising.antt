-- The answers of the normaliser and the measurer, by what the first pass found.
use Prim.Native.Nat.{ℕ, ◌≤◌, ◌<◌}
use native.Mathlib.Omega.{arith}
use mathlib.Core.Path.{◌≡◌, refl, ap, sym, ◌∙◌}
use mathlib.Core.List.{List}
use lib.ListN.{length}
use lib.Seq.{sets}
use Rattle.rules.specs.Verdict.{Refusal}
use Rattle.rules.specs.Values.{refusal}
use Rattle.rules.specs.Command.{Command, words_all}
use Rattle.rules.specs.Walk.{Parsed, refused, accepted, parse}
use Rattle.rules.specs.Form.{form}
use Rattle.rules.specs.Answer.{accepted_answer, refused_answer, refuse, measure_parsed, normalising, measuring, commands_of, normal_form}
use Rattle.theory.proofs.Form.{form-fits}
use Rattle.std.specs.Prelude.{Ok, Err}
use Rattle.list.specs.View.{walked_of}
use Rattle.list.proofs.Answers.{counts, answer-refused, answer-short, answer-done}

module _ (l image buffer : List ℕ) where
  abbrev made : List Command → List ℕ
  made cs = words_all (form image cs)

  -- ---- the normaliser

  -- refusals 1 to 10
  pub normalise-refused : (f : Refusal) → walked_of (parse image l) ≡ Err f → refuse f image buffer ≡ normalising l image buffer
  unfolding normalising
  normalise-refused f e = answer-refused made l image buffer (parse image l) f e

  module _ (c k : ℕ) (e : walked_of (parse image l) ≡ Ok (record { commands = c; records = k })) where
    -- 11
    pub normalise-short : length buffer < length (normal_form image l) → refuse (refusal 11 (length l)) image buffer ≡ normalising l image buffer
    unfolding normalising
    normalise-short h = answer-short made l image buffer (parse image l) c k e h

    pub normalise-done : length (normal_form image l) ≤ length buffer
        → record {
          answer = accepted_answer (length l) c k (length (normal_form image l));
          image = image;
          buffer = sets buffer 0 (normal_form image l);
        } ≡ normalising l image buffer
    unfolding normalising
    normalise-done h = answer-done made l image buffer (parse image l) c k e (length (normal_form image l)) refl h

    -- a form fits where its list does
    pub list-fits : length l ≤ length buffer → length (normal_form image l) ≤ length buffer
    list-fits h = omega (arith, form-fits image l (commands_of (parse image l)) (counts (parse image l) c k e).is)

  -- ---- the measurer

  pub measure-refused : (f : Refusal) → walked_of (parse image l) ≡ Err f → refused_answer f ≡ measuring l image
  unfolding measuring
  measure-refused f e = by_refused (parse image l) e
    where
      by_refused : (x : Parsed) → walked_of x ≡ Err f → refused_answer f ≡ measure_parsed l image x
      by_refused (refused g) e = let eg : f ≡ g = cc in ap refused_answer eg
      by_refused (accepted cs) e = let z : ◌≡◌ {A = ℕ} 0 1 = cc in absurd (omega arith)

  pub measure-done : (c k : ℕ) → walked_of (parse image l) ≡ Ok (record { commands = c; records = k }) → accepted_answer (length l) c k (length (normal_form image l)) ≡ measuring l image
  unfolding measuring
  measure-done c k e = let f = counts (parse image l) c k e in sym (ap (measure_parsed l image) f.is ∙ rw (f.commands, f.records_are))
