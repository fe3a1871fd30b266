-- The demands on boards that swap bytes (document 02, Ticket 7), about the definitions that the contracts of `swap::read` and
-- `swap::normalise` cite: "The word got at a position is now the swapped one, and every promise above it reads it so." What has
-- the name of a demand (Demands.antt) is that demand on the words got. Lists, images and buffers are any words, and modes any number.
use Prim.Native.Nat.{ℕ, ◌≤◌, ◌<◌}
use native.Mathlib.Omega.{arith}
use mathlib.Core.Path.{◌≡◌, refl, ap, sym, ◌∙◌}
use mathlib.Core.Bool.{true, false, cond}
use mathlib.Core.Logic.{◌↔◌}
use mathlib.Core.List.{List}
use lib.Dec.{ltb}
use borrow.Author.Tests.{ltb-true, ltb-false, lt-ltb, le-ltb}
use lib.ListN.{length, get_or}
use Rattle.rules.specs.Values.{refusal}
use Rattle.rules.specs.Command.{words_all}
use Rattle.rules.specs.Walk.{parse}
use Rattle.rules.specs.Image.{final, Unset}
use Rattle.rules.specs.Records.{records, record_words, without_positions}
use Rattle.rules.specs.Form.{form}
use Rattle.rules.specs.Answer.{Outcome, refusal_of, tells_bit, TellsLowest, refuse, accept, room, reading, normalising, commands_of, does, normal_form, written}
use Rattle.rules.specs.Swap.{words_got, Call, in_mode, reading_in, normalising_in}
use Rattle.theory.proofs.Bytes.{Words}
use Rattle.theory.proofs.Swap.{got_twice, got_zero, got_length}
use Rattle.theory.proofs.Outcomes.{reading_never, normalising_never}
use Rattle.theory.proofs.Demands as plain

-- ---- a call in a mode

module _ (call : Call) (ws image buffer : List ℕ) where
  -- mode 0 is the call without a mode
  pub mode-zero : in_mode call ws image buffer 0 ≡ call ws image buffer
  unfolding in_mode
  mode-zero = rw (got_zero ws)

  module _ (mode : ℕ) where
    pub over_three : 3 < mode → in_mode call ws image buffer mode ≡ refuse (refusal 21 0) image buffer
    unfolding in_mode
    over_three h = rw (lt-ltb 3 mode h)

    pub up_to_three : mode ≤ 3 → in_mode call ws image buffer mode ≡ call (words_got mode ws) image buffer
    unfolding in_mode
    up_to_three h = rw (le-ltb 3 mode h)

    pub by_mode : (P : Outcome → Type 0) → (3 < mode → P (refuse (refusal 21 0) image buffer)) → (mode ≤ 3 → P (call (words_got mode ws) image buffer))
        → P (in_mode call ws image buffer mode)
    unfolding in_mode
    by_mode P over within =
        (elim (ltb 3 mode) as (λ t. ltb 3 mode ≡ t → P (cond t (refuse (refusal 21 0) image buffer) (call (words_got mode ws) image buffer))) [
          | true ↦ λ e. over (ltb-true 3 mode e)
          | false ↦ λ e. within (ltb-false 3 mode e)
        ]) refl

    -- what the call accepts of the words got
    accepts : {A : Type 0} → (((call (words_got mode ws) image buffer).answer.verdict ≡ 0) ↔ A)
        → ((in_mode call ws image buffer mode).answer.verdict ≡ 0) ↔ ((mode ≤ 3) × A)
    accepts {A} e = (
      by_mode (λ o. o.answer.verdict ≡ 0 → (mode ≤ 3) × A) (λ h z. absurd (omega (arith, z))) (λ h z. (h, e.0 z)),
      λ a. rw (up_to_three a.0) (e.1 a.1),
    )

    -- 21, where the call itself never gives it
    twenty_one : ((call (words_got mode ws) image buffer).answer.verdict ≡ 21 → ⊥) → ((in_mode call ws image buffer mode).answer.verdict ≡ 21) ↔ (3 < mode)
    twenty_one never = (
      by_mode (λ o. o.answer.verdict ≡ 21 → 3 < mode) (λ h e. h) (λ h e. absurd (never e)),
      λ h. ap (λ (o : Outcome). o.answer.verdict) (over_three h),
    )

    -- a list that the host has swapped is got as it was
    pub swapped-before : mode ≤ 3 → Words ws → in_mode call (words_got mode ws) image buffer mode ≡ call ws image buffer
    unfolding in_mode
    swapped-before h k = rw (le-ltb 3 mode h, got_twice mode ws k)

-- two lists in two modes with the same words got: the same answer, image and buffer
pub same_words_got : (call : Call) (ws us image buffer : List ℕ) (mode mode' : ℕ) → mode ≤ 3 → mode' ≤ 3
    → words_got mode ws ≡ words_got mode' us → in_mode call ws image buffer mode ≡ in_mode call us image buffer mode'
same_words_got call ws us image buffer mode mode' h h' e =
    up_to_three call ws image buffer mode h ∙ ap (λ (l : List ℕ). call l image buffer) e ∙ sym (up_to_three call us image buffer mode' h')

module _ (ws image buffer : List ℕ) (mode : ℕ) where
  abbrev got : List ℕ
  got = words_got mode ws

  -- "21 for a mode over 3", and for nothing else
  pub reader_twenty_one_exactly : ((reading_in ws image buffer mode).answer.verdict ≡ 21) ↔ (3 < mode)
  reader_twenty_one_exactly = twenty_one reading ws image buffer mode (reading_never 21 refl got image buffer)

  pub normaliser_twenty_one_exactly : ((normalising_in ws image buffer mode).answer.verdict ≡ 21) ↔ (3 < mode)
  normaliser_twenty_one_exactly = twenty_one normalising ws image buffer mode (normalising_never 21 refl got image buffer)

  -- ---- Demand 1

  abbrev Refuses : Outcome → Type 0
  Refuses o = (o.answer.verdict ≡ 0 → ⊥) → o ≡ refuse (refusal_of o.answer) image buffer

  pub reader_refuses : Refuses (reading_in ws image buffer mode)
  reader_refuses = by_mode reading ws image buffer mode Refuses (λ h n. refl) (λ h. plain.reader_refuses got image buffer)

  pub normaliser_refuses : Refuses (normalising_in ws image buffer mode)
  normaliser_refuses = by_mode normalising ws image buffer mode Refuses (λ h n. refl) (λ h. plain.normaliser_refuses got image buffer)

  -- ---- Tickets 2 and 6: with 6 the lowest undefined bit of the word got, with every other verdict 32

  abbrev TellsBit : Outcome → Type 0
  TellsBit o = tells_bit o.answer ≡ true

  abbrev TellsGot : Outcome → Type 0
  TellsGot o = TellsLowest got o.answer

  pub reader_tells_bit : TellsBit (reading_in ws image buffer mode)
  reader_tells_bit = by_mode reading ws image buffer mode TellsBit (λ h. refl) (λ h. plain.reader_tells_bit got image buffer)

  pub normaliser_tells_bit : TellsBit (normalising_in ws image buffer mode)
  normaliser_tells_bit = by_mode normalising ws image buffer mode TellsBit (λ h. refl) (λ h. plain.normaliser_tells_bit got image buffer)

  pub reader_tells_lowest : TellsGot (reading_in ws image buffer mode)
  reader_tells_lowest =
      by_mode reading ws image buffer mode TellsGot (λ h e. absurd (omega (arith, e))) (λ h. plain.reader_tells_lowest got image buffer)

  pub normaliser_tells_lowest : TellsGot (normalising_in ws image buffer mode)
  normaliser_tells_lowest =
      by_mode normalising ws image buffer mode TellsGot (λ h e. absurd (omega (arith, e))) (λ h. plain.normaliser_tells_lowest got image buffer)

  -- ---- Demand 2

  pub reader_accepts_exactly : ((reading_in ws image buffer mode).answer.verdict ≡ 0) ↔ ((mode ≤ 3) × plain.ReaderAccepts image got buffer)
  reader_accepts_exactly = accepts reading ws image buffer mode (plain.reader_accepts_exactly image got buffer)

  pub normaliser_accepts_exactly : ((normalising_in ws image buffer mode).answer.verdict ≡ 0) ↔ ((mode ≤ 3) × plain.NormaliserAccepts image got buffer)
  normaliser_accepts_exactly = accepts normalising ws image buffer mode (plain.normaliser_accepts_exactly image got buffer)

  -- "records, forms and image hold the words so got"
  pub reader_gives : mode ≤ 3 → (a : plain.ReaderAccepts image got buffer)
      → reading_in ws image buffer mode ≡ accept got a.commands (record_words (records 0 a.commands)) (final image a.commands) buffer
  reader_gives h a = up_to_three reading ws image buffer mode h ∙ plain.reader_gives image got buffer a

  pub normaliser_gives : mode ≤ 3 → (a : plain.NormaliserAccepts image got buffer)
      → normalising_in ws image buffer mode ≡ accept got a.commands (words_all (form image a.commands)) image buffer
  normaliser_gives h a = up_to_three normalising ws image buffer mode h ∙ plain.normaliser_gives image got buffer a

  abbrev Untouched : Outcome → Type 0
  Untouched o = o.answer.verdict ≡ 0 → (k : ℕ) → Unset (commands_of (parse image got)) k → get_or o.image k 0 ≡ get_or image k 0

  pub untouched : Untouched (reading_in ws image buffer mode)
  untouched = by_mode reading ws image buffer mode Untouched (λ h z k u. refl) (λ h. plain.untouched got image buffer)

-- ---- Demand 3

pub record BothAccept (image ws recs out : List ℕ) (mode : ℕ) : Type 0 where
  pub by_reader : (reading_in ws image recs mode).answer.verdict ≡ 0
  pub by_normaliser : (normalising_in ws image out mode).answer.verdict ≡ 0

-- what both give is what they give of the words got
record OfGot (image ws recs out : List ℕ) (mode : ℕ) : Type 0 where
  both : plain.BothAccept image (words_got mode ws) recs out
  reads : reading_in ws image recs mode ≡ reading (words_got mode ws) image recs
  writes : normalising_in ws image out mode ≡ normalising (words_got mode ws) image out

of_got : (image ws recs out : List ℕ) (mode : ℕ) → BothAccept image ws recs out mode → OfGot image ws recs out mode
of_got image ws recs out mode a =
    let r = (accepts reading ws image recs mode (λ z. z, λ z. z)).0 a.by_reader in
    let n = (accepts normalising ws image out mode (λ z. z, λ z. z)).0 a.by_normaliser in
    record {
      both = record { by_reader = r.1; by_normaliser = n.1 };
      reads = up_to_three reading ws image recs mode r.0;
      writes = up_to_three normalising ws image out mode r.0;
    }

-- two lists, each in a mode of its own
pub equal_exactly_when_same : (image ws us recs recs' out out' : List ℕ) (mode mode' : ℕ) → BothAccept image ws recs out mode → BothAccept image us recs' out' mode'
    → (written (normalising_in ws image out mode) ≡ written (normalising_in us image out' mode')) ↔ (does image (words_got mode ws) ≡ does image (words_got mode' us))
equal_exactly_when_same image ws us recs recs' out out' mode mode' a b =
    let g = of_got image ws recs out mode a in
    let h = of_got image us recs' out' mode' b in
    rw (g.writes, h.writes) (plain.equal_exactly_when_same image (words_got mode ws) (words_got mode' us) recs recs' out out' g.both h.both)

-- "so demand 3 reads a form back in mode 0"
module _ (image ws recs out : List ℕ) (mode : ℕ) (a : BothAccept image ws recs out mode) where
  abbrev pub the_form : List ℕ
  the_form = written (normalising_in ws image out mode)

  g : OfGot image ws recs out mode
  g = of_got image ws recs out mode a

  pub writes_the_form : (the_form ≡ normal_form image (words_got mode ws)) × ((normalising_in ws image out mode).answer.words ≡ length (normal_form image (words_got mode ws)))
  writes_the_form = rw g.writes (plain.writes_the_form image (words_got mode ws) recs out g.both)

  pub form_does_the_same : does image the_form ≡ does image (words_got mode ws)
  form_does_the_same = rw g.writes (plain.form_does_the_same image (words_got mode ws) recs out g.both)

  pub form_never_longer : length the_form ≤ length ws
  form_never_longer = rw (g.writes, ← got_length mode ws) (plain.form_never_longer image (words_got mode ws) recs out g.both)

  module _ (recs' out' : List ℕ) (enough : (reading_in ws image recs mode).answer.records ≤ room recs')
      (long : (normalising_in ws image out mode).answer.words ≤ length out') where
    enough' : (reading (words_got mode ws) image recs).answer.records ≤ room recs'
    enough' = rw g.reads at enough

    long' : (normalising (words_got mode ws) image out).answer.words ≤ length out'
    long' = rw g.writes at long

    read_back : reading_in the_form image recs' 0 ≡ reading the_form image recs'
    read_back = mode-zero reading the_form image recs'

    write_back : normalising_in the_form image out' 0 ≡ normalising the_form image out'
    write_back = mode-zero normalising the_form image out'

    -- "verdict 0 at the form's length"
    pub form-accepted : BothAccept image the_form recs' out' 0
    form-accepted =
        let b = plain.form-accepted image (words_got mode ws) recs out g.both recs' out' enough' long' in
        record { by_reader = rw (read_back, g.writes) b.by_reader; by_normaliser = rw (write_back, g.writes) b.by_normaliser }

    pub form_positions : ((reading_in the_form image recs' 0).answer.position ≡ length the_form) × ((normalising_in the_form image out' 0).answer.position ≡ length the_form)
    form_positions = rw (read_back, write_back, g.writes) (plain.form_positions image (words_got mode ws) recs out g.both recs' out' enough' long')

    pub form-image : (reading_in the_form image recs' 0).image ≡ (reading_in ws image recs mode).image
    form-image = rw (read_back, g.reads, g.writes) (plain.form-image image (words_got mode ws) recs out g.both recs' out' enough' long')

    pub form-records : ((reading_in the_form image recs' 0).answer.records ≡ (reading_in ws image recs mode).answer.records)
        × (without_positions (written (reading_in the_form image recs' 0)) ≡ without_positions (written (reading_in ws image recs mode)))
    form-records = rw (read_back, g.reads, g.writes) (plain.form-records image (words_got mode ws) recs out g.both recs' out' enough' long')

    pub form_again : written (normalising_in the_form image out' 0) ≡ the_form
    form_again = rw (write_back, g.writes) (plain.form_again image (words_got mode ws) recs out g.both recs' out' enough' long')
