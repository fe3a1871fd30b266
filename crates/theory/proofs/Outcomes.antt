-- The demands' proofs: the laws of the form, carried to what the reader and the normaliser return and write.
use Prim.Native.Nat.{ℕ, ◌≤◌, ◌<◌}
use native.Mathlib.Omega.{arith}
use mathlib.Core.Path.{◌≡◌, refl, ap, sym, ◌∙◌}
use mathlib.Core.Bool.{Bool, true, false}
use mathlib.Core.Logic.{◌↔◌}
use mathlib.Core.List.{List, [], ◌∷◌}
use lib.Dec.{eqb, ltb}
use borrow.Author.Tests.{eqb-false, ltb-true, ltb-false, not-true}
use lib.ListN.{length, get_or}
use lib.Seq.{get_or-set_other}
use Rattle.rules.specs.Table.{Kind, setting, plain, keeps, begins}
use Rattle.rules.specs.Command.{Command, words_all}
use Rattle.rules.specs.Verdict.{Refusal}
use Rattle.rules.specs.Values.{refusal}
use Rattle.rules.specs.Walk.{Parsed, refused, accepted, parse}
use Rattle.rules.specs.Image.{leave, apply, final, UnsetBy, Unset}
use Rattle.rules.specs.Records.{records, record_words, without_positions}
use Rattle.rules.specs.Effect.{Effect, effect, works}
use Rattle.rules.specs.Form.{form}
use Rattle.rules.specs.Answer.{Outcome, refused_answer, refusal_of, tells_bit, TellsLowest, refuse, accept, fitting, room, read_parsed, write_parsed, measure_parsed, reading, normalising, measuring, commands_of, does, normal_form, written}
use Rattle.rules.specs.Pci.{pairs_all, values, parse_pairs, to_pci, from_pci}
use Rattle.rules.specs.Valid.{AllValid}
use Rattle.theory.proofs.Bools.{not_both, or_right, neither}
use Rattle.theory.proofs.Numbers.{never_number, not-zero, RefusesList, proper, parse-refuses}
use Rattle.theory.proofs.Refusals.{not_of_call, OfRefusals, weaker, OfParsed, of_parse, of_pairs}
use Rattle.theory.proofs.Parse.{parse-accepted}
use Rattle.theory.proofs.Differing.{sets_outside}
use Rattle.theory.proofs.Form.{form-accepted, form-fits, form-same, same-form, same_effect, normal_again}
use Rattle.theory.proofs.Records.{records-count, records-same}
use Rattle.theory.proofs.Verdict.{written-accept, Reads, reads, reading-zero, Normalises, normalises, normalising-zero}

-- ---- a refusal

fitting-refuses : (small : Bool) (ws image buffer : List ℕ) (o : Outcome) → o.answer.verdict ≡ 0
    → ((fitting small ws image buffer o).answer.verdict ≡ 0 → ⊥)
    → fitting small ws image buffer o
    ≡ refuse (refusal_of (fitting small ws image buffer o).answer) image buffer
fitting-refuses true ws image buffer o z n = refl
fitting-refuses false ws image buffer o z n = absurd (n z)

read-refuses : (ws image buffer : List ℕ) (x : Parsed) → ((read_parsed ws image buffer x).answer.verdict ≡ 0 → ⊥)
    → read_parsed ws image buffer x ≡ refuse (refusal_of (read_parsed ws image buffer x).answer) image buffer
read-refuses ws image buffer (refused f) n = refl
read-refuses ws image buffer (accepted cs) n =
    fitting-refuses (ltb (room buffer) (length (records 0 cs))) ws image buffer (accept ws cs (record_words (records 0 cs)) (final image cs) buffer) refl n

write-refuses : (made : List Command → List ℕ) (ws image buffer : List ℕ) (x : Parsed) → ((write_parsed made ws image buffer x).answer.verdict ≡ 0 → ⊥)
    → write_parsed made ws image buffer x
    ≡ refuse (refusal_of (write_parsed made ws image buffer x).answer) image buffer
write-refuses made ws image buffer (refused f) n = refl
write-refuses made ws image buffer (accepted cs) n =
    fitting-refuses (ltb (length buffer) (length (made cs))) ws image buffer (accept ws cs (made cs) image buffer) refl n

pub reading-refuses : (ws image buffer : List ℕ) → ((reading ws image buffer).answer.verdict ≡ 0 → ⊥)
    → reading ws image buffer ≡ refuse (refusal_of (reading ws image buffer).answer) image buffer
unfolding reading
reading-refuses ws image buffer n = read-refuses ws image buffer (parse image ws) n

pub normalising-refuses : (ws image buffer : List ℕ) → ((normalising ws image buffer).answer.verdict ≡ 0 → ⊥)
    → normalising ws image buffer
    ≡ refuse (refusal_of (normalising ws image buffer).answer) image buffer
unfolding normalising
normalising-refuses ws image buffer n = write-refuses (λ cs. words_all (form image cs)) ws image buffer (parse image ws) n

pub to_pci_refuses : (ws image buffer : List ℕ) → ((to_pci ws image buffer).answer.verdict ≡ 0 → ⊥)
    → to_pci ws image buffer ≡ refuse (refusal_of (to_pci ws image buffer).answer) image buffer
unfolding to_pci
to_pci_refuses ws image buffer n = write-refuses pairs_all ws image buffer (parse image ws) n

pub from_pci_refuses : (ps image buffer : List ℕ) → ((from_pci ps image buffer).answer.verdict ≡ 0 → ⊥)
    → from_pci ps image buffer ≡ refuse (refusal_of (from_pci ps image buffer).answer) image buffer
unfolding from_pci
from_pci_refuses ps image buffer n = write-refuses (λ cs. values ps) (values ps) image buffer (parse_pairs image ps) n

-- ---- what is told: acceptance, 11, or a refusal of the list

record OfAnswers (P : Refusal → Type 0) (l : List ℕ) : Type 0 where
  zero : (p : ℕ) → P (refusal 0 p)
  eleven : (p : ℕ) → P (refusal 11 p)
  refusals : OfRefusals P l

module _ (P : Refusal → Type 0) (l : List ℕ) (of : OfAnswers P l) where
  of_fitting : (small : Bool) (ws image buffer : List ℕ) (o : Outcome) → P (refusal_of o.answer) → P (refusal_of (fitting small ws image buffer o).answer)
  of_fitting true ws image buffer o t = of.eleven (length ws)
  of_fitting false ws image buffer o t = t

  of_read : (ws image buffer : List ℕ) (x : Parsed) → OfParsed P x → P (refusal_of (read_parsed ws image buffer x).answer)
  of_read ws image buffer (refused f) t = t
  of_read ws image buffer (accepted cs) t =
      of_fitting (ltb (room buffer) (length (records 0 cs))) ws image buffer (accept ws cs (record_words (records 0 cs)) (final image cs) buffer) (of.zero (length ws))

  of_write : (made : List Command → List ℕ) (ws image buffer : List ℕ) (x : Parsed) → OfParsed P x → P (refusal_of (write_parsed made ws image buffer x).answer)
  of_write made ws image buffer (refused f) t = t
  of_write made ws image buffer (accepted cs) t =
      of_fitting (ltb (length buffer) (length (made cs))) ws image buffer (accept ws cs (made cs) image buffer) (of.zero (length ws))

  module _ (image buffer : List ℕ) where
    parsed : OfParsed P (parse image l)
    parsed = of_parse P l of.refusals image

    of_reading : P (refusal_of (reading l image buffer).answer)
    unfolding reading
    of_reading = of_read l image buffer (parse image l) parsed

    of_normalising : P (refusal_of (normalising l image buffer).answer)
    unfolding normalising
    of_normalising = of_write (λ cs. words_all (form image cs)) l image buffer (parse image l) parsed

    of_to_pci : P (refusal_of (to_pci l image buffer).answer)
    unfolding to_pci
    of_to_pci = of_write pairs_all l image buffer (parse image l) parsed

of_from_pci : (P : Refusal → Type 0) (ps : List ℕ) → OfAnswers P (values ps) → (image buffer : List ℕ) → P (refusal_of (from_pci ps image buffer).answer)
unfolding from_pci
of_from_pci P ps of image buffer =
    of_write P (values ps) of (λ cs. values ps) (values ps) image buffer (parse_pairs image ps) (of_pairs P image ps of.refusals)

-- 20 and 21 are told by no call on a list without a mode
module _ (k : ℕ) (t : not_of_call k ≡ true) (ws : List ℕ) where
  never : OfAnswers (λ f. f.number ≡ k → ⊥) ws
  never = record {
    zero = λ p e. not_both (not_of_call k) t (ap not_of_call (sym e));
    eleven = λ p e. not_both (not_of_call k) t (ap not_of_call (sym e));
    refusals = weaker (λ f p. never_number p k (or_right (eqb k 0) _ (or_right (eqb k 11) _ t))) (proper ws);
  }

  pub reading_never : (image buffer : List ℕ) → (reading ws image buffer).answer.verdict ≡ k → ⊥
  reading_never = of_reading _ ws never

  pub normalising_never : (image buffer : List ℕ) → (normalising ws image buffer).answer.verdict ≡ k → ⊥
  normalising_never = of_normalising _ ws never

-- with 6 a bit of the word, with every other verdict 32
tells : (l : List ℕ) → OfAnswers (λ f. tells_bit (refused_answer f) ≡ true) l
tells l = record { zero = λ p. refl; eleven = λ p. refl; refusals = weaker (λ f p. p.bit) (proper l) }

pub reading_tells : (ws image buffer : List ℕ) → tells_bit (reading ws image buffer).answer ≡ true
reading_tells ws = of_reading _ ws (tells ws)

pub normalising_tells : (ws image buffer : List ℕ) → tells_bit (normalising ws image buffer).answer ≡ true
normalising_tells ws = of_normalising _ ws (tells ws)

pub to_pci_tells : (ws image buffer : List ℕ) → tells_bit (to_pci ws image buffer).answer ≡ true
to_pci_tells ws = of_to_pci _ ws (tells ws)

pub from_pci_tells : (ps image buffer : List ℕ) → tells_bit (from_pci ps image buffer).answer ≡ true
from_pci_tells ps = of_from_pci _ ps (tells (values ps))

-- with 6 the lowest undefined one of the list's word at the position
lowest : (l : List ℕ) → OfAnswers (λ f. TellsLowest l (refused_answer f)) l
lowest l = record {
  zero = λ p e. let z : ◌≡◌ {A = ℕ} 0 6 = e in absurd (omega arith);
  eleven = λ p e. let z : ◌≡◌ {A = ℕ} 11 6 = e in absurd (omega arith);
  refusals = record {
    others = λ n p o near e. absurd (eqb-false n 6 (neither (eqb n 6) _ (not-true _ o)).0 e);
    six = λ p b near told e. told;
  };
}

pub reading-lowest : (ws image buffer : List ℕ) → TellsLowest ws (reading ws image buffer).answer
reading-lowest ws = of_reading _ ws (lowest ws)

pub normalising-lowest : (ws image buffer : List ℕ) → TellsLowest ws (normalising ws image buffer).answer
normalising-lowest ws = of_normalising _ ws (lowest ws)

pub to_pci_lowest : (ws image buffer : List ℕ) → TellsLowest ws (to_pci ws image buffer).answer
to_pci_lowest ws = of_to_pci _ ws (lowest ws)

pub from_pci_lowest : (ps image buffer : List ℕ) → TellsLowest (values ps) (from_pci ps image buffer).answer
from_pci_lowest ps = of_from_pci _ ps (lowest (values ps))

-- ---- words that no command sets

abbrev pub commands : List ℕ → List ℕ → List Command
commands image ws = commands_of (parse image ws)

leave_unset : (t : Kind) (id h : ℕ) (rest image : List ℕ) (k : ℕ) → UnsetBy t id rest k → get_or (leave t id h rest image) k 0 ≡ get_or image k 0
leave_unset setting id h rest image k u = sets_outside image id (h ∷ rest) k u
leave_unset plain id h rest image k u = refl
leave_unset keeps id h rest image k u = get_or-set_other image id k h 0 u
leave_unset begins id h rest image k u = get_or-set_other image 0x08 k h 0 u

final_unset : (image : List ℕ) (cs : List Command) (k : ℕ) → Unset cs k → get_or (final image cs) k 0 ≡ get_or image k 0
final_unset image [] k u = refl
final_unset image (c ∷ cs) k u =
    final_unset (apply c image) cs k u.1 ∙ leave_unset c.row.kind c.row.id c.header c.rest image k u.0

pub untouched : (ws image buffer : List ℕ) → (reading ws image buffer).answer.verdict ≡ 0
    → (k : ℕ) → Unset (commands image ws) k → get_or (reading ws image buffer).image k 0 ≡ get_or image k 0
untouched ws image buffer z k u =
    ap (λ (o : Outcome). get_or o.image k 0) (reading-zero image ws buffer z).is ∙ final_unset image (commands image ws) k u

-- ---- the form, as the normaliser writes it

-- its commands, and its words
abbrev pub form_commands : List ℕ → List ℕ → List Command
form_commands image ws = form image (commands image ws)

abbrev pub form_words : List ℕ → List ℕ → List ℕ → List ℕ
form_words image ws out = written (normalising ws image out)

module _ (image ws out : List ℕ) (z : (normalising ws image out).answer.verdict ≡ 0) where
  n : Normalises image ws out (commands image ws)
  n = normalising-zero image ws out z

  pub form-written : form_words image ws out ≡ normal_form image ws
  form-written = ap written n.is ∙ written-accept ws (commands image ws) (normal_form image ws) image out

  pub writes-form : (form_words image ws out ≡ normal_form image ws) × ((normalising ws image out).answer.words ≡ length (normal_form image ws))
  writes-form = (form-written, ap (λ (o : Outcome). o.answer.words) n.is)

  -- the form is accepted, with the form's commands
  pub form_parsed : parse image (form_words image ws out) ≡ accepted (form_commands image ws)
  form_parsed = ap (parse image) form-written ∙ form-accepted image ws (commands image ws) n.parsed

  pub form-does : does image (form_words image ws out) ≡ does image ws
  form-does = ap (λ (x : Parsed). effect image (commands_of x)) form_parsed ∙ form-same image ws (commands image ws) n.parsed

  pub form-short : length (form_words image ws out) ≤ length ws
  form-short = omega (arith, ap length form-written, form-fits image ws (commands image ws) n.parsed)

  module _ (out' : List ℕ) (long : (normalising ws image out).answer.words ≤ length out') where
    back : Normalises image (form_words image ws out) out' (form_commands image ws)
    back = normalises image (form_words image ws out) out' (form_commands image ws) form_parsed
        (omega (arith, writes-form.1, ap length (normal_again image ws (commands image ws) n.parsed).2))

    pub write_back : normalising (form_words image ws out) image out'
        ≡ accept (form_words image ws out) (form_commands image ws) (words_all (form image (form_commands image ws))) image out'
    write_back = back.is

    pub back_again : written (normalising (form_words image ws out) image out') ≡ form_words image ws out
    back_again =
        ap written back.is ∙ written-accept (form_words image ws out) (form_commands image ws) (words_all (form image (form_commands image ws))) image out'
        ∙ (normal_again image ws (commands image ws) n.parsed).2 ∙ sym form-written

pub equal-exactly : (image ws us out out' : List ℕ) → (normalising ws image out).answer.verdict ≡ 0 → (normalising us image out').answer.verdict ≡ 0
    → (form_words image ws out ≡ written (normalising us image out')) ↔ (does image ws ≡ does image us)
equal-exactly image ws us out out' z y =
    let p = (normalising-zero image ws out z).parsed in
    let q = (normalising-zero image us out' y).parsed in
    let f = form-written image ws out z in
    let g = form-written image us out' y in (
      λ e. same_effect image ws us (commands image ws) (commands image us) p q (sym f ∙ e ∙ g),
      λ e. f ∙ same-form image ws us (commands image ws) (commands image us) p q e ∙ sym g,
    )

-- ---- the form, measured

module _ (ws image buffer : List ℕ) where
  abbrev made : List Command → List ℕ
  made cs = words_all (form image cs)

  -- the normaliser's outcome is by the measurer's answer
  abbrev Measured : Parsed → Outcome → Type 0
  Measured x o =
      ((o.answer.verdict ≡ 11 → ⊥) → (o.answer ≡ measure_parsed ws image x) × (length (written o) ≡ (measure_parsed ws image x).words))
      × ((o.answer.verdict ≡ 11) ↔ (((measure_parsed ws image x).verdict ≡ 0) × (length buffer < (measure_parsed ws image x).words)))

  measured : (x : Parsed) → RefusesList 4098 x → Measured x (write_parsed made ws image buffer x)
  measured (refused f) r = (
    λ n. (refl, refl),
    (λ e. absurd (never_number r 11 refl e), λ m. absurd (not-zero r m.0)),
  )
  measured (accepted cs) r =
      (elim (ltb (length buffer) (length (made cs))) as (λ t. ltb (length buffer) (length (made cs)) ≡ t
      → Measured (accepted cs) (fitting t ws image buffer (accept ws cs (made cs) image buffer))) [
        | true ↦ λ e. (λ n. absurd (n refl), (λ z. (refl, ltb-true (length buffer) (length (made cs)) e), λ m. refl))
        | false ↦ λ e. (
          λ n. (refl, ap length (written-accept ws cs (made cs) image buffer)),
          (λ z. let f : ◌≡◌ {A = ℕ} 0 11 = z in absurd (omega arith), λ m. absurd (omega (arith, ltb-false (length buffer) (length (made cs)) e, m.1))),
        )
      ]) refl

  pub measuring-is : ((normalising ws image buffer).answer.verdict ≡ 11 → ⊥)
      → ((normalising ws image buffer).answer ≡ measuring ws image) × (length (written (normalising ws image buffer)) ≡ (measuring ws image).words)
  unfolding normalising measuring
  measuring-is = (measured (parse image ws) (parse-refuses image ws)).0

  pub eleven_is : ((normalising ws image buffer).answer.verdict ≡ 11) ↔ (((measuring ws image).verdict ≡ 0) × (length buffer < (measuring ws image).words))
  unfolding normalising measuring
  eleven_is = (measured (parse image ws) (parse-refuses image ws)).1

measured_fits : (ws image : List ℕ) (x : Parsed) → parse image ws ≡ x → (measure_parsed ws image x).words ≤ length ws
measured_fits ws image (refused f) e = omega arith
measured_fits ws image (accepted cs) e = form-fits image ws cs e

pub measuring-fits : (ws image : List ℕ) → (measuring ws image).words ≤ length ws
unfolding measuring
measuring-fits ws image = measured_fits ws image (parse image ws) refl

-- ---- the form, read back

module _ (image ws recs out recs' : List ℕ) (y : (reading ws image recs).answer.verdict ≡ 0) (z : (normalising ws image out).answer.verdict ≡ 0)
    (enough : (reading ws image recs).answer.records ≤ room recs') where
  r : Reads image ws recs (commands image ws)
  r = reading-zero image ws recs y

  valid : AllValid (commands image ws)
  valid = (parse-accepted image ws (commands image ws) r.parsed).parses.valid

  form-valid : AllValid (form_commands image ws)
  form-valid = (parse-accepted image _ (form_commands image ws) (form_parsed image ws out z)).parses.valid

  same_effects : effect image (form_commands image ws) ≡ effect image (commands image ws)
  same_effects = form-same image ws (commands image ws) r.parsed

  same-works : works image (form_commands image ws) ≡ works image (commands image ws)
  same-works = ap (λ (x : Effect). x.done) same_effects

  count : length (records 0 (form_commands image ws)) ≡ length (records 0 (commands image ws))
  count = records-count 0 0 image image (form_commands image ws) (commands image ws) form-valid valid same-works

  back_reads : Reads image (form_words image ws out) recs' (form_commands image ws)
  back_reads =
      let e : (reading ws image recs).answer.records ≡ length (records 0 (commands image ws)) = ap (λ (o : Outcome). o.answer.records) r.is in
      reads image (form_words image ws out) recs' (form_commands image ws) (form_parsed image ws out z) (omega (arith, count, e))

  pub read_back : reading (form_words image ws out) image recs'
      ≡ accept (form_words image ws out) (form_commands image ws) (record_words (records 0 (form_commands image ws)))
      (final image (form_commands image ws)) recs'
  read_back = back_reads.is

  pub back_image : (reading (form_words image ws out) image recs').image ≡ (reading ws image recs).image
  back_image =
      ap (λ (o : Outcome). o.image) read_back ∙ ap (λ (x : Effect). x.left) same_effects ∙ sym (ap (λ (o : Outcome). o.image) r.is)

  pub back_records : ((reading (form_words image ws out) image recs').answer.records ≡ (reading ws image recs).answer.records)
      × (without_positions (written (reading (form_words image ws out) image recs')) ≡ without_positions (written (reading ws image recs)))
  back_records = (
    ap (λ (o : Outcome). o.answer.records) read_back ∙ count ∙ sym (ap (λ (o : Outcome). o.answer.records) r.is),
    ap without_positions (ap written read_back ∙ written-accept (form_words image ws out) (form_commands image ws) (record_words (records 0 (form_commands image ws))) (final image (form_commands image ws)) recs')
        ∙ records-same 0 0 image image (form_commands image ws) (commands image ws) form-valid valid same-works
        ∙ sym (ap without_positions (ap written r.is ∙ written-accept ws (commands image ws) (record_words (records 0 (commands image ws))) (final image (commands image ws)) recs)),
  )
