-- Every number of an answer fits a word, and what a call gives back.
use Prim.Native.Nat.{ℕ, ◌*◌, ◌^◌, ◌≤◌, ◌<◌}
use native.Mathlib.Omega.{arith}
use mathlib.Core.Path.{◌≡◌, refl, ap, sym, subst}
use mathlib.Core.Bool.{Bool, true, false}
use mathlib.Core.List.{List}
use lib.Dec.{ltb}
use lib.ListN.{length}
use Rattle.rules.specs.Command.{Command, words_all}
use Rattle.rules.specs.Walk.{Parsed, refused, accepted, parse}
use Rattle.rules.specs.Form.{form}
use Rattle.rules.specs.Verdict.{Refusal}
use Rattle.rules.specs.Verdict.{Answer}
use Rattle.rules.specs.Values.{refusal}
use Rattle.rules.specs.Answer.{Outcome, outcome, refused_answer, accept, fitting, write_parsed, reading, normalising, measuring}
use Rattle.rules.specs.Pci.{pairs_all, values, parse_pairs, to_pci, from_pci}
use Rattle.rules.specs.Session.{SessionOutcome, in_session, reading_scenes}
use Rattle.rules.specs.Swap.{words_got, reading_in, normalising_in}
use Rattle.rules.specs.Verdict.{SessionAnswer, BookAnswer}
use Rattle.rules.specs.Book.{BookOutcome, book_outcome, writing_book}
use Rattle.theory.proofs.Numbers.{RefusesList, parse-refuses, pairs_refuses}
use Rattle.theory.proofs.Parse.{parse-accepted}
use Rattle.theory.proofs.Form.{form-fits}
use Rattle.theory.proofs.Records.{records-few}
use Rattle.theory.proofs.Pci.{pairs_length, pairs_carry}
use Rattle.theory.proofs.Counts.{reading_counts}
use Rattle.theory.proofs.Session.{scenes_sound}
use Rattle.theory.proofs.Demands.{told_is_enough, told_never_longer}
use Rattle.theory.proofs.Modes.{by_mode}
use Rattle.theory.proofs.Book.{words-few}
use Rattle.answer.specs.FitsWords.{FitsWords}

refused-fits : (f : Refusal) → f.word ≤ 16384 → FitsWords (refused_answer f)
refused-fits f h = record { position = omega arith; commands = omega arith; records = omega arith; words = omega arith }

-- accepted, or refused for want of room
fitting-fits : (ws image buffer : List ℕ) (short : Bool) (cs : List Command) (out left : List ℕ) → ws ≡ words_all cs → length ws ≤ 4096 → length out ≤ 16384
    → FitsWords (fitting short ws image buffer (accept ws cs out left buffer)).answer
fitting-fits ws image buffer true cs out left e few h = refused-fits (refusal 11 (length ws)) (omega arith)
fitting-fits ws image buffer false cs out left e few h =
    let n = records-few 0 cs in
    record { position = omega arith; commands = omega (arith, ap length e, n); records = omega (arith, ap length e, n); words = omega arith }

module _ (ws image buffer : List ℕ) where
  reading-fits : FitsWords (reading ws image buffer).answer
  reading-fits =
      let c = reading_counts ws image buffer in
      record { position = omega (arith, c.position); commands = omega (arith, c.commands); records = omega (arith, c.records); words = omega (arith, c.records, c.words) }

  -- a call that writes words made of the commands of a list
  write-fits : (made : List Command → List ℕ) (x : Parsed) → RefusesList 4098 x
      → ((cs : List Command) → x ≡ accepted cs → (parse image ws ≡ accepted cs) × (length (made cs) ≤ 2 * length ws))
      → FitsWords (write_parsed made ws image buffer x).answer
  write-fits made (refused f) r h = refused-fits f (omega (arith, r.near))
  write-fits made (accepted cs) r h =
      let a = parse-accepted image ws cs (h cs refl).0 in
      fitting-fits ws image buffer (ltb (length buffer) (length (made cs))) cs (made cs) image a.parses.words_are a.few
      (omega (arith, a.few, (h cs refl).1))

  normalising-fits : FitsWords (normalising ws image buffer).answer
  unfolding normalising
  normalising-fits =
      write-fits (λ cs. words_all (form image cs)) (parse image ws) (parse-refuses image ws) (λ cs p. (p, omega (arith, form-fits image ws cs p)))

  to_pci-fits : FitsWords (to_pci ws image buffer).answer
  unfolding to_pci
  to_pci-fits =
      write-fits pairs_all (parse image ws) (parse-refuses image ws)
      (λ cs p. (p, omega (arith, pairs_length cs, ap length (parse-accepted image ws cs p).parses.words_are)))

module _ (ws image buffer : List ℕ) (mode : ℕ) where
  no_mode_fits : 3 < mode → FitsWords (refused_answer (refusal 21 0))
  no_mode_fits h = refused-fits (refusal 21 0) (omega arith)

  reading_in-fits : FitsWords (reading_in ws image buffer mode).answer
  reading_in-fits = by_mode reading ws image buffer mode (λ o. FitsWords o.answer) no_mode_fits (λ h. reading-fits (words_got mode ws) image buffer)

  normalising_in-fits : FitsWords (normalising_in ws image buffer mode).answer
  normalising_in-fits = by_mode normalising ws image buffer mode (λ o. FitsWords o.answer) no_mode_fits (λ h. normalising-fits (words_got mode ws) image buffer)

-- as the normaliser answers where the buffer has the list's length
measuring-fits : (ws image : List ℕ) → FitsWords (measuring ws image)
measuring-fits ws image = subst FitsWords (told_is_enough ws image ws (told_never_longer ws image)) (normalising-fits ws image ws)

from_pci-fits : (ps image buffer : List ℕ) → FitsWords (from_pci ps image buffer).answer
unfolding from_pci
from_pci-fits ps image buffer =
    write-fits (values ps) image buffer (λ cs. values ps) (parse_pairs image ps) (pairs_refuses image ps)
    (λ cs p. ((pairs_carry image ps cs p).parsed, omega arith))

record SessionFits (s : SessionAnswer) : Type 0 where
  pub answer : FitsWords s.answer
  pub lists : s.lists < 2 ^ 32

reading_scenes-fits : (ws table image buffer : List ℕ) → SessionFits (reading_scenes ws table image buffer).session
reading_scenes-fits ws table image buffer =
    let s = scenes_sound ws table image buffer in
    let b = s.bounded in
    record {
      answer = record {
        position = omega (arith, s.position);
        commands = omega (arith, b.lists, b.commands);
        records = omega (arith, b.lists, b.records);
        words = omega (arith, b.lists, b.records, b.words);
      };
      lists = omega (arith, b.lists);
    }

-- ---- of what a call returned

module _ (a : Answer) (image after : List ℕ) where
  pub read_fits : (ws image₀ buffer : List ℕ) (mode : ℕ) → outcome a image after ≡ reading_in ws image₀ buffer mode → FitsWords a
  read_fits ws image₀ buffer mode e = subst (λ (o : Outcome). FitsWords o.answer) (sym e) (reading_in-fits ws image₀ buffer mode)

  pub normalise_fits : (ws image₀ buffer : List ℕ) (mode : ℕ) → outcome a image after ≡ normalising_in ws image₀ buffer mode → FitsWords a
  normalise_fits ws image₀ buffer mode e = subst (λ (o : Outcome). FitsWords o.answer) (sym e) (normalising_in-fits ws image₀ buffer mode)

  pub to_pci_fits : (ws image₀ buffer : List ℕ) → outcome a image after ≡ to_pci ws image₀ buffer → FitsWords a
  to_pci_fits ws image₀ buffer e = subst (λ (o : Outcome). FitsWords o.answer) (sym e) (to_pci-fits ws image₀ buffer)

  pub from_pci_fits : (ps image₀ buffer : List ℕ) → outcome a image after ≡ from_pci ps image₀ buffer → FitsWords a
  from_pci_fits ps image₀ buffer e = subst (λ (o : Outcome). FitsWords o.answer) (sym e) (from_pci-fits ps image₀ buffer)

pub measure_fits : (a : Answer) (ws image : List ℕ) → a ≡ measuring ws image → FitsWords a
measure_fits a ws image e = subst FitsWords (sym e) (measuring-fits ws image)

pub session_fits : (s : SessionAnswer) (image after ws table image₀ buffer : List ℕ) → in_session s image after ≡ reading_scenes ws table image₀ buffer
    → FitsWords s.answer × (s.lists < 2 ^ 32)
session_fits s image after ws table image₀ buffer e =
    let t = subst (λ (o : SessionOutcome). SessionFits o.session) (sym e) (reading_scenes-fits ws table image₀ buffer) in (t.answer, t.lists)

pub book_fits : (a : BookAnswer) (after table ws buffer : List ℕ) → book_outcome a after ≡ writing_book table ws buffer → a.words < 2 ^ 32
book_fits a after table ws buffer e = omega (arith, words-few table ws buffer, ap (λ (o : BookOutcome). o.answer.words) e)
