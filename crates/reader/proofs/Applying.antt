-- The second pass of the reader: the image and the records after each command.
use Prim.Native.Nat.{ℕ, suc, ◌+◌, ◌≤◌, ◌<◌}
use native.Mathlib.Nat.{add-zero}
use native.Mathlib.Omega.{arith}
use mathlib.Core.Path.{◌≡◌, refl, ap, ap₂, sym, ◌∙◌}
use mathlib.Core.Bool.{Bool}
use mathlib.Core.List.{List, [], ◌∷◌, ◌++◌, append-nil}
use lib.ListN.{length, get_or, length-append}
use lib.Seq.{sets, length-sets}
use Rattle.rules.specs.Word.{id_of}
use Rattle.rules.specs.Command.{Command, words_all}
use Rattle.rules.specs.Walk.{accepted, parse}
use Rattle.rules.specs.Image.{apply, final}
use Rattle.rules.specs.Records.{records, record_words}
use Rattle.theory.proofs.Image.{sets_append}
use Rattle.theory.proofs.Differing.{length-final, final_append}
use Rattle.theory.proofs.Records.{records_append, record_words_append}
use Rattle.table.specs.Ids.{setting_id, setting_kind}
use Rattle.command.specs.View.{size_at}
use Rattle.reader.specs.declared.Place.{Place}
use Rattle.command.specs.Effects.{id_at, command_at, record_at}
use Rattle.reader.specs.Applied.{Applies, Applied}
use Rattle.command.proofs.Standing.{command_at_lem}
use Rattle.list.proofs.Position.{Position, position-start, position_end, AtCommand, after, at_command}

-- the words of the records of some commands
abbrev recorded : List Command → List ℕ
recorded cs = record_words (records 0 cs)

recorded_append : (a b : List Command) → recorded (a ++ b) ≡ recorded a ++ record_words (records (length (words_all a)) b)
recorded_append a b =
    ap record_words (records_append 0 a b) ∙ record_words_append (records 0 a) (records (0 + length (words_all a)) b)
    ∙ ap (λ (p : ℕ). recorded a ++ record_words (records p b)) (omega arith)

-- what is asked of the id of the command at a position
module _ (l : List ℕ) (at w id : ℕ) (ew : w ≡ get_or l at 0) (ei : id ≡ id_of w) where
  pub member_at : (b : Bool) → b ≡ setting_id id → setting_id (id_at l at) ≡ b
  member_at b e = sym (e ∙ ap setting_id (ei ∙ ap id_of ew))

  pub kind_at : (k : ℕ) → k ≡ setting_kind id → setting_kind (id_at l at) ≡ k
  kind_at k e = sym (e ∙ ap setting_kind (ei ∙ ap id_of ew))

-- a setting is applied: it gives no record
pub applied_setting : (l : List ℕ) (at n written : ℕ) (image buffer image' : List ℕ) → size_at l at ≡ n → record_at l at ≡ [] → image' ≡ apply (command_at l at) image
    → Applied l at written image buffer (record { at = at + n; written = written }) image' buffer
applied_setting l at n written image buffer image' s r e = record {
  place = ap₂ {C = Place} (λ m k. record { at = at + m; written = k }) (sym s) (sym (ap (λ (x : List ℕ). written + length x) r ∙ add-zero written));
  image-is = e;
  buffer-is = ap (sets buffer written) (sym r);
}

-- what the second pass keeps: the image and the records are those of the commands passed
pub record Applying (all : List Command) (l image₀ recs₀ : List ℕ) (p : Place) (image recs : List ℕ) : Type 0 where
  pub position : Position all l p.at
  pub inside : p.at ≤ length l
  pub image-is : image ≡ final image₀ position.done
  pub written_is : p.written ≡ length (recorded position.done)
  pub recs_is : recs ≡ sets recs₀ 0 (recorded position.done)

pub applying_start : (image l recs : List ℕ) (cs : List Command) → parse image l ≡ accepted cs
    → Applying cs l image recs (record { at = 0; written = 0 }) image recs
applying_start image l recs cs e =
    record { position = position-start image l cs e; inside = omega arith; image-is = refl; written_is = refl; recs_is = refl }

module _ (all : List Command) (l image₀ recs₀ : List ℕ) (few : length l ≤ 4096) (p : Place) (image recs : List ℕ) (g : Applying all l image₀ recs₀ p image recs) where
  abbrev done : List Command
  done = g.position.done

  module _ (h : p.at < length l) where
    t : AtCommand all l p.at g.position
    t = at_command all l p.at g.position h

    abbrev next : List Command
    next = done ++ t.command ∷ []

    grown : recorded (g.position.done ++ t.command ∷ []) ≡ recorded g.position.done ++ record_at l p.at
    grown =
        recorded_append done (t.command ∷ [])
        ∙ ap₂ (λ (q : ℕ) (c : Command). recorded done ++ record_words (records q (c ∷ []))) (sym g.position.at_is) (sym t.stands.command-is)

    written_grown : p.written + length (record_at l p.at) ≡ length (recorded next)
    written_grown = omega (arith, g.written_is, ap length grown, length-append (recorded done) (record_at l p.at))

    -- the records so far are a part of all
    within : length (recorded next) ≤ length (recorded all)
    within =
        omega (
          arith,
          ap (λ (x : List Command). length (recorded x)) t.after-all,
          ap length (recorded_append next t.later),
          length-append (recorded next) (record_words (records (length (words_all next)) t.later)),
        )

    pub applying_command : length image₀ ≡ 256 → length (record_words (records 0 all)) ≤ length recs₀ → Applies l p.at p.written image recs
    applying_command long enough = record {
      command = command_at_lem few t.stands;
      long = ap length g.image-is ∙ length-final image₀ done ∙ long;
      fits = omega (arith, written_grown, within, ap length g.recs_is, length-sets recs₀ 0 (recorded done));
    }

    pub applying_on : (p' : Place) (image' recs' : List ℕ) → Applied l p.at p.written image recs p' image' recs'
        → (p.at < p'.at) × Applying all l image₀ recs₀ p' image' recs'
    applying_on p' image' recs' a =
        let at_is : p'.at ≡ p.at + suc (length t.command.rest) = ap (λ (x : Place). x.at) a.place ∙ ap (λ (n : ℕ). p.at + n) t.stands.size_is in (
          omega arith,
          record {
            position = after g.position t p'.at at_is;
            inside = omega (arith, t.stands.inside);
            image-is = a.image-is ∙ ap₂ apply t.stands.command-is g.image-is ∙ sym (final_append image₀ done (t.command ∷ []));
            written_is = ap (λ (x : Place). x.written) a.place ∙ written_grown;
            recs_is = a.buffer-is ∙ ap₂ (λ (x : List ℕ) (n : ℕ). sets x n (record_at l p.at)) g.recs_is (omega (arith, g.written_is))
                ∙ sym (sets_append recs₀ 0 (recorded done) (record_at l p.at)) ∙ ap (sets recs₀ 0) (sym grown);
          },
        )

  pub applying_end : length l ≤ p.at → (image ≡ final image₀ all) × (recs ≡ sets recs₀ 0 (record_words (records 0 all)))
  applying_end h =
      let e : all ≡ done = g.position.all-is ∙ ap (λ (x : List Command). done ++ x) (position_end all l p.at g.position h) ∙ append-nil done in
      (g.image-is ∙ ap (final image₀) (sym e), g.recs_is ∙ ap (λ (x : List Command). sets recs₀ 0 (recorded x)) (sym e))
