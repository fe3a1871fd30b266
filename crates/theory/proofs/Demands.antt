-- The demands, about the definitions that the contracts of `read`, `normalise`, `measure`, `to_pci`, `from_pci` and
-- `read_scenes` cite: `reading`, `normalising`, `measuring`, `to_pci`, `from_pci` and `reading_scenes` give what the functions
-- return and write. Lists, images, pairs, tables and buffers are any words whatever. In a mode: Modes.antt.
use Prim.Native.Nat.{ℕ, ◌+◌, ◌*◌, ◌/◌, ◌≤◌, ◌<◌}
use native.Mathlib.Omega.{arith}
use mathlib.Core.Path.{◌≡◌, ap, sym, ◌∙◌, subst}
use mathlib.Core.Bool.{true}
use mathlib.Core.Logic.{◌↔◌}
use mathlib.Core.List.{List, [], ◌∷◌, ◌++◌}
use lib.ListN.{length, get_or, drop, length-append}
use Rattle.rules.specs.Word.{AllDefined}
use Rattle.rules.specs.Command.{Command, words_all}
use Rattle.rules.specs.Place.{word_mask}
use Rattle.rules.specs.Walk.{parse}
use Rattle.rules.specs.Valid.{Accepted}
use Rattle.rules.specs.Image.{final, Unset}
use Rattle.rules.specs.Records.{records, record_words, without_positions}
use Rattle.rules.specs.Form.{form}
use Rattle.rules.specs.Verdict.{Answer}
use Rattle.rules.specs.Verdict.{Refusal}
use Rattle.rules.specs.Answer.{Outcome, refused_answer, refusal_of, tells_bit, TellsLowest, refuse, accept, room, reading, normalising, measuring, commands_of, does, normal_form, written}
use Rattle.rules.specs.Pci.{pairs_all, values, whole_pairs, parse_pairs, to_pci, from_pci}
use Rattle.rules.specs.Session.{SessionOutcome, opened, left, part, outside, read_from, reading_scenes, Bounded, as_session, SameApplied, first_pairs, next_pair, StopsAt}
use Rattle.theory.proofs.Parse.{parse-accepted, accepted-parse}
use Rattle.theory.proofs.Defined.{defined_all}
use Rattle.theory.proofs.Records.{records-few}
use Rattle.theory.proofs.Verdict.{written-accept, reads, reading-zero, normalises, normalising-zero}
use Rattle.theory.proofs.Pci.{values-all, whole-all, whole-values, pairs_length, carries_pairs, pairs_carry, to_pci_lem, to_pci_zero, from_pci_lem, from_pci_zero}
use Rattle.theory.proofs.Outcomes as laws
use Rattle.theory.proofs.Session.{call_twenty, call_at_zero, call_reads, pair_refused, from_end, from_cut, scenes_sound, whole_stops, whole-accepted, stops_at, first-lists, one_pair}

-- ---- Demand 1: "a refusal changes neither the image nor any buffer", and its counts are 0

pub reader_refuses : (ws image buffer : List ℕ) → ((reading ws image buffer).answer.verdict ≡ 0 → ⊥)
    → reading ws image buffer ≡ refuse (refusal_of (reading ws image buffer).answer) image buffer
reader_refuses = laws.reading-refuses

pub normaliser_refuses : (ws image buffer : List ℕ) → ((normalising ws image buffer).answer.verdict ≡ 0 → ⊥)
    → normalising ws image buffer
    ≡ refuse (refusal_of (normalising ws image buffer).answer) image buffer
normaliser_refuses = laws.normalising-refuses

pub to_pci_refuses : (ws image buffer : List ℕ) → ((to_pci ws image buffer).answer.verdict ≡ 0 → ⊥)
    → to_pci ws image buffer ≡ refuse (refusal_of (to_pci ws image buffer).answer) image buffer
to_pci_refuses = laws.to_pci_refuses

pub from_pci_refuses : (ps image buffer : List ℕ) → ((from_pci ps image buffer).answer.verdict ≡ 0 → ⊥)
    → from_pci ps image buffer ≡ refuse (refusal_of (from_pci ps image buffer).answer) image buffer
from_pci_refuses = laws.from_pci_refuses

-- ---- Tickets 2 and 6: with 6 the lowest undefined bit of the word, with every other verdict 32

pub reader_tells_bit : (ws image buffer : List ℕ) → tells_bit (reading ws image buffer).answer ≡ true
reader_tells_bit = laws.reading_tells

pub normaliser_tells_bit : (ws image buffer : List ℕ) → tells_bit (normalising ws image buffer).answer ≡ true
normaliser_tells_bit = laws.normalising_tells

pub to_pci_tells_bit : (ws image buffer : List ℕ) → tells_bit (to_pci ws image buffer).answer ≡ true
to_pci_tells_bit = laws.to_pci_tells

pub from_pci_tells_bit : (ps image buffer : List ℕ) → tells_bit (from_pci ps image buffer).answer ≡ true
from_pci_tells_bit = laws.from_pci_tells

-- "the number of the lowest undefined bit set in that word": the word of the list at the position, under its mask
pub reader_tells_lowest : (ws image buffer : List ℕ) → TellsLowest ws (reading ws image buffer).answer
reader_tells_lowest = laws.reading-lowest

pub normaliser_tells_lowest : (ws image buffer : List ℕ) → TellsLowest ws (normalising ws image buffer).answer
normaliser_tells_lowest = laws.normalising-lowest

pub to_pci_tells_lowest : (ws image buffer : List ℕ) → TellsLowest ws (to_pci ws image buffer).answer
to_pci_tells_lowest = laws.to_pci_lowest

pub from_pci_tells_lowest : (ps image buffer : List ℕ) → TellsLowest (values ps) (from_pci ps image buffer).answer
from_pci_tells_lowest = laws.from_pci_lowest

-- ---- Demand 2

-- the words of a list are those of commands that the table and the rules allow, in order (specs/Valid.antt), and what the
-- reader is to write fits
pub record ReaderAccepts (image ws buffer : List ℕ) : Type 0 where
  pub commands : List Command
  pub accepted : Accepted image ws commands
  pub fits : length (records 0 commands) ≤ room buffer

pub record NormaliserAccepts (image ws buffer : List ℕ) : Type 0 where
  pub commands : List Command
  pub accepted : Accepted image ws commands
  pub fits : length (words_all (form image commands)) ≤ length buffer

-- then "the image, the items of work and the counts are .. those the guide gives"
pub reader_gives : (image ws buffer : List ℕ) (a : ReaderAccepts image ws buffer)
    → reading ws image buffer ≡ accept ws a.commands (record_words (records 0 a.commands)) (final image a.commands) buffer
reader_gives image ws buffer a = (reads image ws buffer a.commands (accepted-parse image ws a.commands a.accepted) a.fits).is

pub normaliser_gives : (image ws buffer : List ℕ) (a : NormaliserAccepts image ws buffer)
    → normalising ws image buffer ≡ accept ws a.commands (words_all (form image a.commands)) image buffer
normaliser_gives image ws buffer a = (normalises image ws buffer a.commands (accepted-parse image ws a.commands a.accepted) a.fits).is

-- "A list is accepted exactly when the XP10 guide, with the rulings of document 01, accepts it."
pub reader_accepts_exactly : (image ws buffer : List ℕ) → ((reading ws image buffer).answer.verdict ≡ 0) ↔ ReaderAccepts image ws buffer
reader_accepts_exactly image ws buffer = (
  λ z. let r = reading-zero image ws buffer z in
      record { commands = commands_of (parse image ws); accepted = parse-accepted image ws _ r.parsed; fits = r.fits },
  λ a. ap (λ (o : Outcome). o.answer.verdict) (reader_gives image ws buffer a),
)

pub normaliser_accepts_exactly : (image ws buffer : List ℕ) → ((normalising ws image buffer).answer.verdict ≡ 0) ↔ NormaliserAccepts image ws buffer
normaliser_accepts_exactly image ws buffer = (
  λ z. let n = normalising-zero image ws buffer z in
      record { commands = commands_of (parse image ws); accepted = parse-accepted image ws _ n.parsed; fits = n.fits },
  λ a. ap (λ (o : Outcome). o.answer.verdict) (normaliser_gives image ws buffer a),
)

-- "A bit outside its mask must be zero."
pub accepted_defined : (image ws : List ℕ) (cs : List Command) → Accepted image ws cs → (p : ℕ) → p < length ws → AllDefined (get_or ws p 0) (word_mask ws p)
accepted_defined image ws cs a =
    subst (λ (l : List ℕ). (p : ℕ) → p < length l → AllDefined (get_or l p 0) (word_mask l p)) (sym a.parses.words_are) (defined_all cs a.parses.valid)

-- "each image word that no command sets is as before"

pub untouched : (ws image buffer : List ℕ) → (reading ws image buffer).answer.verdict ≡ 0
    → (k : ℕ) → Unset (commands_of (parse image ws)) k → get_or (reading ws image buffer).image k 0 ≡ get_or image k 0
untouched = laws.untouched

-- ---- Demand 3

-- "Demand 3 takes buffers large enough that 11 is not given. Accepted there means verdict 0, from the reader and the
-- normaliser alike."
pub record BothAccept (image ws recs out : List ℕ) : Type 0 where
  pub by_reader : (reading ws image recs).answer.verdict ≡ 0
  pub by_normaliser : (normalising ws image out).answer.verdict ≡ 0

-- "the normaliser writes exactly its words, and the words written in the answer are its length"
pub writes_the_form : (image ws recs out : List ℕ) → BothAccept image ws recs out
    → (written (normalising ws image out) ≡ normal_form image ws) × ((normalising ws image out).answer.words ≡ length (normal_form image ws))
writes_the_form image ws recs out a = laws.writes-form image ws out a.by_normaliser

-- "For any starting image and any two lists accepted from it, their normal forms are equal, in length and every word,
-- exactly when the two lists do the same"
pub equal_exactly_when_same : (image ws us recs recs' out out' : List ℕ) → BothAccept image ws recs out → BothAccept image us recs' out'
    → (written (normalising ws image out) ≡ written (normalising us image out')) ↔ (does image ws ≡ does image us)
equal_exactly_when_same image ws us recs recs' out out' a b =
    laws.equal-exactly image ws us out out' a.by_normaliser b.by_normaliser

-- "When a form is read back, those words alone are the list, and the image is the same starting image again."
module _ (image ws recs out : List ℕ) (a : BothAccept image ws recs out) where
  abbrev pub the_form : List ℕ
  the_form = written (normalising ws image out)

  -- "The normal form of an accepted list .. does the same"
  pub form_does_the_same : does image the_form ≡ does image ws
  form_does_the_same = laws.form-does image ws out a.by_normaliser

  -- it has at most as many words as its list
  pub form_never_longer : length the_form ≤ length ws
  form_never_longer = laws.form-short image ws out a.by_normaliser

  module _ (recs' out' : List ℕ) (enough : (reading ws image recs).answer.records ≤ room recs')
      (long : (normalising ws image out).answer.words ≤ length out') where
    -- "is accepted from that image": "verdict 0 at the form's length"
    pub form-accepted : BothAccept image the_form recs' out'
    form-accepted = record {
      by_reader = ap (λ (o : Outcome). o.answer.verdict) (laws.read_back image ws recs out recs' a.by_reader a.by_normaliser enough);
      by_normaliser = ap (λ (o : Outcome). o.answer.verdict) (laws.write_back image ws out a.by_normaliser out' long);
    }

    pub form_positions : ((reading the_form image recs').answer.position ≡ length the_form)
        × ((normalising the_form image out').answer.position ≡ length the_form)
    form_positions = (
      ap (λ (o : Outcome). o.answer.position) (laws.read_back image ws recs out recs' a.by_reader a.by_normaliser enough),
      ap (λ (o : Outcome). o.answer.position) (laws.write_back image ws out a.by_normaliser out' long),
    )

    -- "the same new image as for the list"
    pub form-image : (reading the_form image recs').image ≡ (reading ws image recs).image
    form-image = laws.back_image image ws recs out recs' a.by_reader a.by_normaliser enough

    -- "as many records as for the list, equal to them in order in id, length and header"
    pub form-records : ((reading the_form image recs').answer.records ≡ (reading ws image recs).answer.records)
        × (without_positions (written (reading the_form image recs')) ≡ without_positions (written (reading ws image recs)))
    form-records = laws.back_records image ws recs out recs' a.by_reader a.by_normaliser enough

    -- "The normaliser writes the same words again": the form "is its own normal form"
    pub form_again : written (normalising the_form image out') ≡ the_form
    form_again = laws.back_again image ws out a.by_normaliser out' long

-- ---- the room told (document 02, Ticket 4)

module _ (ws image buffer : List ℕ) where
  -- "it equals what the normaliser gives and writes wherever that isn't 11"
  pub measured_as_normalised : ((normalising ws image buffer).answer.verdict ≡ 11 → ⊥)
      → ((normalising ws image buffer).answer ≡ measuring ws image) × (length (written (normalising ws image buffer)) ≡ (measuring ws image).words)
  measured_as_normalised = laws.measuring-is ws image buffer

  -- and 11 it is exactly where the list is accepted with a form that is longer than the buffer
  pub eleven_exactly : ((normalising ws image buffer).answer.verdict ≡ 11) ↔ (((measuring ws image).verdict ≡ 0) × (length buffer < (measuring ws image).words))
  eleven_exactly = laws.eleven_is ws image buffer

  -- so a buffer of the length told is enough
  pub told_is_enough : (measuring ws image).words ≤ length buffer → (normalising ws image buffer).answer ≡ measuring ws image
  told_is_enough h = (measured_as_normalised (λ e. absurd (omega (arith, (eleven_exactly.0 e).1)))).0

  -- and a shorter one never is
  pub less_is_eleven : (measuring ws image).verdict ≡ 0 → length buffer < (measuring ws image).words → (normalising ws image buffer).answer.verdict ≡ 11
  less_is_eleven z h = eleven_exactly.1 (z, h)

module _ (ws image : List ℕ) where
  -- "the form never has more words than its list"
  pub told_never_longer : (measuring ws image).words ≤ length ws
  told_never_longer = laws.measuring-fits ws image

  -- so it answers as the normaliser does where the buffer has the list's length
  told : (normalising ws image ws).answer ≡ measuring ws image
  told = told_is_enough ws image ws told_never_longer

  -- "with the normaliser's refusals except 11"
  pub measurer_never_eleven : (measuring ws image).verdict ≡ 11 → ⊥
  measurer_never_eleven e =
      let accepted = ((eleven_exactly ws image ws).0 (ap (λ (a : Answer). a.verdict) told ∙ e)).0 in
      omega (arith, e, accepted)

  -- "(0 on refusal)"
  pub measurer_refuses : ((measuring ws image).verdict ≡ 0 → ⊥) → measuring ws image ≡ refused_answer (refusal_of (measuring ws image))
  measurer_refuses n =
      sym told ∙ ap (λ (o : Outcome). o.answer) (normaliser_refuses ws image ws (λ z. n (ap (λ (a : Answer). a.verdict) (sym told) ∙ z)))
      ∙ ap (λ (a : Answer). refused_answer (refusal_of a)) told

  pub measurer_tells_bit : tells_bit (measuring ws image) ≡ true
  measurer_tells_bit = ap tells_bit (sym told) ∙ normaliser_tells_bit ws image ws

  pub measurer_tells_lowest : TellsLowest ws (measuring ws image)
  measurer_tells_lowest = subst (TellsLowest ws) told (normaliser_tells_lowest ws image ws)

-- ---- PCI writes (document 02, Ticket 1)

-- "an accepted list", and its pairs fit
pub record ToPciAccepts (image ws buffer : List ℕ) : Type 0 where
  pub commands : List Command
  pub accepted : Accepted image ws commands
  pub fits : length (pairs_all commands) ≤ length buffer

pub to_pci_gives : (image ws buffer : List ℕ) (a : ToPciAccepts image ws buffer)
    → to_pci ws image buffer ≡ accept ws a.commands (pairs_all a.commands) image buffer
to_pci_gives image ws buffer a = (to_pci_lem image ws buffer a.commands (accepted-parse image ws a.commands a.accepted) a.fits).is

pub to_pci_accepts_exactly : (image ws buffer : List ℕ) → ((to_pci ws image buffer).answer.verdict ≡ 0) ↔ ToPciAccepts image ws buffer
to_pci_accepts_exactly image ws buffer = (
  λ z. let t = to_pci_zero image ws buffer z in
      record { commands = commands_of (parse image ws); accepted = parse-accepted image ws _ t.parsed; fits = t.fits },
  λ a. ap (λ (o : Outcome). o.answer.verdict) (to_pci_gives image ws buffer a),
)

-- the reader accepts the same lists, where buffers are large enough
pub to_pci_as_the_reader : (image ws recs buffer : List ℕ) → length ws ≤ room recs → 2 * length ws ≤ length buffer
    → ((to_pci ws image buffer).answer.verdict ≡ 0) ↔ ((reading ws image recs).answer.verdict ≡ 0)
to_pci_as_the_reader image ws recs buffer enough long = (
  λ z. let a = (to_pci_accepts_exactly image ws buffer).0 z in
      (reader_accepts_exactly image ws recs).1 (record {
        commands = a.commands;
        accepted = a.accepted;
        fits = omega (arith, ap length a.accepted.parses.words_are, records-few 0 a.commands);
      }),
  λ z. let a = (reader_accepts_exactly image ws recs).0 z in
      (to_pci_accepts_exactly image ws buffer).1 (record {
        commands = a.commands;
        accepted = a.accepted;
        fits = omega (arith, ap length a.accepted.parses.words_are, pairs_length a.commands);
      }),
)

-- the pairs, but for an odd last word, are those of an accepted list, and it fits
pub record FromPciAccepts (image ps buffer : List ℕ) : Type 0 where
  pub commands : List Command
  pub accepted : Accepted image (words_all commands) commands
  pub pairs_are : whole_pairs ps ≡ pairs_all commands
  pub fits : length (words_all commands) ≤ length buffer

module _ (image ps buffer : List ℕ) where
  carried : (a : FromPciAccepts image ps buffer) → values ps ≡ words_all a.commands
  carried a = sym (whole-values ps) ∙ ap values a.pairs_are ∙ values-all a.commands

  pub from_pci_gives : (a : FromPciAccepts image ps buffer)
      → from_pci ps image buffer ≡ accept (words_all a.commands) a.commands (words_all a.commands) image buffer
  from_pci_gives a =
      let parsed = ap (parse image) (carried a) ∙ accepted-parse image _ a.commands a.accepted in
      let all = carries_pairs image ps a.commands (record { parsed = parsed; pairs_are = a.pairs_are }) in
      (from_pci_lem image ps buffer a.commands all (omega (arith, ap length (carried a), a.fits))).is
      ∙ ap (λ (l : List ℕ). accept l a.commands l image buffer) (carried a)

  -- exactly the pairs of accepted lists are accepted
  pub from_pci_accepts_exactly : ((from_pci ps image buffer).answer.verdict ≡ 0) ↔ FromPciAccepts image ps buffer
  from_pci_accepts_exactly = (
    λ z. let f = from_pci_zero image ps buffer z in
        let cs : List Command = commands_of (parse_pairs image ps) in
        let k = pairs_carry image ps cs f.parsed in
        let a = parse-accepted image (values ps) cs k.parsed in
        record {
          commands = cs;
          accepted = subst (λ (l : List ℕ). Accepted image l cs) a.parses.words_are a;
          pairs_are = k.pairs_are;
          fits = omega (arith, f.fits, ap length a.parses.words_are);
        },
    λ a. ap (λ (o : Outcome). o.answer.verdict) (from_pci_gives a),
  )

-- the same by what the functions give: these are the pairs written of some list that the reader accepts. The record buffer and
-- the buffer for pairs are large enough for any list.
pub record CarriesReadList (image ps buffer recs pairs : List ℕ) : Type 0 where
  pub list : List ℕ
  pub by_reader : (reading list image recs).answer.verdict ≡ 0
  pub pairs_are : written (to_pci list image pairs) ≡ whole_pairs ps
  pub fits : length list ≤ length buffer

module _ (image ps buffer recs pairs : List ℕ) (enough : 4096 ≤ room recs) (long : 2 * 4096 ≤ length pairs) where
  writes : (ws : List ℕ) (cs : List Command) → Accepted image ws cs → written (to_pci ws image pairs) ≡ pairs_all cs
  writes ws cs a =
      let fits : length (pairs_all cs) ≤ length pairs = omega (arith, pairs_length cs, ap length a.parses.words_are, a.few) in
      ap written (to_pci_gives image ws pairs (record { commands = cs; accepted = a; fits = fits })) ∙ written-accept ws cs (pairs_all cs) image pairs

  pub from_pci_as_the_reader : ((from_pci ps image buffer).answer.verdict ≡ 0) ↔ CarriesReadList image ps buffer recs pairs
  from_pci_as_the_reader = (
    λ z. let a = (from_pci_accepts_exactly image ps buffer).0 z in
        record {
          list = words_all a.commands;
          by_reader = (reader_accepts_exactly image (words_all a.commands) recs).1
              (record { commands = a.commands; accepted = a.accepted; fits = omega (arith, a.accepted.few, records-few 0 a.commands) });
          pairs_are = writes (words_all a.commands) a.commands a.accepted ∙ sym a.pairs_are;
          fits = a.fits;
        },
    λ c. let r = (reader_accepts_exactly image c.list recs).0 c.by_reader in
        let is = r.accepted.parses.words_are in
        (from_pci_accepts_exactly image ps buffer).1 (record {
          commands = r.commands;
          accepted = subst (λ (l : List ℕ). Accepted image l r.commands) is r.accepted;
          pairs_are = sym c.pairs_are ∙ writes c.list r.commands r.accepted;
          fits = omega (arith, ap length is, c.fits);
        }),
  )

-- "the two undo each other on accepted lists": of what the one wrote the other writes what it was made of
pub list_comes_back : (image ws pairs list : List ℕ) → (to_pci ws image pairs).answer.verdict ≡ 0 → length ws ≤ length list
    → ((from_pci (written (to_pci ws image pairs)) image list).answer.verdict ≡ 0) × (written (from_pci (written (to_pci ws image pairs)) image list) ≡ ws)
list_comes_back image ws pairs list z long =
    let a = (to_pci_accepts_exactly image ws pairs).0 z in
    let wrote = ap written (to_pci_gives image ws pairs a) ∙ written-accept ws a.commands (pairs_all a.commands) image pairs in
    let is = a.accepted.parses.words_are in
    let gives = from_pci_gives image (written (to_pci ws image pairs)) list (record {
      commands = a.commands;
      accepted = subst (λ (l : List ℕ). Accepted image l a.commands) is a.accepted;
      pairs_are = ap whole_pairs wrote ∙ whole-all a.commands;
      fits = omega (arith, ap length is, long);
    }) in
    (ap (λ (o : Outcome). o.answer.verdict) gives, ap written gives ∙ written-accept (words_all a.commands) a.commands (words_all a.commands) image list ∙ sym is)

pub pairs_come_back : (image ps list pairs : List ℕ) → (from_pci ps image list).answer.verdict ≡ 0 → length (whole_pairs ps) ≤ length pairs
    → ((to_pci (written (from_pci ps image list)) image pairs).answer.verdict ≡ 0) × (written (to_pci (written (from_pci ps image list)) image pairs) ≡ whole_pairs ps)
pairs_come_back image ps list pairs z long =
    let a = (from_pci_accepts_exactly image ps list).0 z in
    let ws : List ℕ = words_all a.commands in
    let wrote = ap written (from_pci_gives image ps list a) ∙ written-accept ws a.commands ws image list in
    let gives = to_pci_gives image (written (from_pci ps image list)) pairs (record {
      commands = a.commands;
      accepted = subst (λ (l : List ℕ). Accepted image l a.commands) (sym wrote) a.accepted;
      fits = omega (arith, ap length a.pairs_are, long);
    }) in (
      ap (λ (o : Outcome). o.answer.verdict) gives,
      ap written gives ∙ written-accept (written (from_pci ps image list)) a.commands (pairs_all a.commands) image pairs ∙ sym a.pairs_are,
    )

-- two lists with the same pairs are the same list
pub same_pairs_same_list : (image ws us pairs pairs' : List ℕ) → (to_pci ws image pairs).answer.verdict ≡ 0 → (to_pci us image pairs').answer.verdict ≡ 0
    → written (to_pci ws image pairs) ≡ written (to_pci us image pairs') → ws ≡ us
same_pairs_same_list image ws us pairs pairs' y z e =
    let lent : List ℕ = ws ++ us in
    let back = (list_comes_back image ws pairs lent y (omega (arith, length-append ws us))).1 in
    let back' = (list_comes_back image us pairs' lent z (omega (arith, length-append ws us))).1 in
    sym back ∙ ap (λ (ps : List ℕ). written (from_pci ps image lent)) e ∙ back'

-- ---- several lists in one call (document 02, Ticket 5)

module _ (ws table image buffer : List ℕ) where
  abbrev pub session : SessionOutcome
  session = reading_scenes ws table image buffer

  -- "The first refused list stops the call; lists before it stay applied": the session over the pairs before is accepted, and
  -- the answer is its own with the single call for the next pair
  pub session_stops : (session.session.answer.verdict ≡ 0 → ⊥) → StopsAt ws table image buffer session.session.lists
  session_stops = whole_stops ws table image buffer

  -- "Demand 1 then means that the refusal itself changes nothing more": the image, the buffer and the counts are those of the
  -- session over the pairs before
  pub session-refused : (session.session.answer.verdict ≡ 0 → ⊥) → SameApplied session (first_pairs ws table image buffer session.session.lists)
  session-refused z =
      let t = session_stops z in
      subst (λ (o : SessionOutcome). SameApplied o (first_pairs ws table image buffer session.session.lists)) (sym t.is)
      (pair_refused ws _ _ (first_pairs ws table image buffer session.session.lists) (λ e. z (ap (λ (o : SessionOutcome). o.session.answer.verdict) t.is ∙ e)))

  -- accepted, it has applied the list of each pair
  pub session-accepted : session.session.answer.verdict ≡ 0 → session.session.lists ≡ length table / 2
  session-accepted = whole-accepted ws table image buffer

  -- 20 "for a pair after the 4,096th or outside the buffer", where all lists before are applied
  pub record PairOutside : Type 0 where
    pub pair : ℕ
    pub there : pair < length table / 2
    pub applied_before : (first_pairs ws table image buffer pair).session.answer.verdict ≡ 0
    pub is-outside : outside ws (get_or table (2 * pair) 0) (get_or table (2 * pair + 1) 0) pair ≡ true

  pub twenty_exactly : (session.session.answer.verdict ≡ 20) ↔ PairOutside
  twenty_exactly = (
    λ e. let t = session_stops (λ z. omega (arith, z, e)) in
        let k : ℕ = session.session.lists in
        record {
          pair = k;
          there = t.there;
          applied_before = t.accepted-before;
          is-outside = rw (first-lists ws table image buffer k (omega (arith, t.there)) t.accepted-before) at
              ((call_twenty ws _ _ _ _ _).0 (ap (λ (o : SessionOutcome). o.session.answer.verdict) (sym t.is) ∙ e));
        },
    λ p. let lists-are = first-lists ws table image buffer p.pair (omega (arith, p.there)) p.applied_before in
        let given : (next_pair ws table image buffer p.pair).session.answer.verdict ≡ 20 = (call_twenty ws _ _ _ _ _).1 (rw lists-are p.is-outside) in
        let t = stops_at ws table image buffer p.pair p.there p.applied_before (λ z. omega (arith, z, given)) in
        ap (λ (o : SessionOutcome). o.session.answer.verdict) t.is ∙ given,
  )

  -- "or 0 where 20 is given"
  pub twenty_at_zero : session.session.answer.verdict ≡ 20 → session.session.answer.position ≡ 0
  twenty_at_zero e =
      let t = session_stops (λ z. omega (arith, z, e)) in
      ap (λ (o : SessionOutcome). o.session.answer.position) t.is
      ∙ call_at_zero ws _ _ _ _ _ (ap (λ (o : SessionOutcome). o.session.answer.verdict) (sym t.is) ∙ e)

  -- the list of a pair
  abbrev pub list_of : ℕ → List ℕ
  list_of k = part ws (get_or table (2 * k) 0) (get_or table (2 * k + 1) 0)

  -- every other refusal is the reader's, of the list that it stops at, "with the record room still left"
  pub refused_by_the_reader : (session.session.answer.verdict ≡ 0 → ⊥) → (session.session.answer.verdict ≡ 20 → ⊥)
      → refusal_of session.session.answer
      ≡ refusal_of (reading (list_of session.session.lists) (first_pairs ws table image buffer session.session.lists).image
      (left (first_pairs ws table image buffer session.session.lists))).answer
  refused_by_the_reader z n =
      let t = session_stops z in
      ap (λ (o : SessionOutcome). refusal_of o.session.answer) t.is
      ∙ ap (λ (o : Outcome). refusal_of o.answer) (call_reads ws _ _ _ _ _ (λ e. n (ap (λ (o : SessionOutcome). o.session.answer.verdict) t.is ∙ e)))

  -- so with 6 the bit is the lowest undefined one of that list's word at the position
  pub session_tells_lowest : TellsLowest (list_of session.session.lists) session.session.answer
  session_tells_lowest e =
      let l : List ℕ = list_of session.session.lists in
      let told = refused_by_the_reader (λ z. omega (arith, z, e)) (λ z. omega (arith, z, e)) in
      subst (λ (f : Refusal). TellsLowest l (refused_answer f)) (sym told) (reader_tells_lowest l _ _) e

  -- the numbers of the answer
  pub session_bounded : Bounded session.session
  session_bounded = (scenes_sound ws table image buffer).bounded

  pub session_tells_bit : tells_bit session.session.answer ≡ true
  session_tells_bit = (scenes_sound ws table image buffer).tells

  -- the words of the buffer behind those written are as before
  pub behind_as_before : drop session.session.answer.words session.buffer ≡ drop session.session.answer.words buffer
  behind_as_before = (scenes_sound ws table image buffer).behind

-- a session over a table cut between two pairs is the second part's, begun where the first ended
pub session_cut : (ws front table image buffer : List ℕ) (k : ℕ) → length front ≡ 2 * k
    → reading_scenes ws (front ++ table) image buffer ≡ read_from ws table (reading_scenes ws front image buffer)
unfolding reading_scenes
session_cut ws front table image buffer k e = from_cut ws front table k (opened image buffer) e

-- a session of one pair inside the buffer is the single call
pub session_of_one : (ws image buffer : List ℕ) (start n : ℕ) → start + n ≤ length ws
    → reading_scenes ws (start ∷ n ∷ []) image buffer ≡ as_session (reading (part ws start n) image buffer)
session_of_one = one_pair

-- "a table with no pair is accepted with any image"
pub session_of_none : (ws table image buffer : List ℕ) → length table ≤ 1 → reading_scenes ws table image buffer ≡ opened image buffer
unfolding reading_scenes
session_of_none ws table image buffer h = from_end ws table (opened image buffer) h
