-- What verdict 0 says of the reader's and the normaliser's answers.
use Prim.Native.Nat.{ℕ, ◌*◌, ◌≤◌}
use native.Mathlib.Omega.{arith}
use mathlib.Core.Path.{◌≡◌, refl, ap, ◌∙◌}
use mathlib.Core.Bool.{Bool, true, false}
use mathlib.Core.List.{List, [], ◌∷◌}
use lib.Dec.{ltb}
use borrow.Author.Tests.{ltb-false, le-ltb}
use lib.ListN.{length, drop}
use lib.Seq.{take-append_seam}
use Rattle.rules.specs.Command.{Command, words_all}
use Rattle.rules.specs.Walk.{Parsed, refused, accepted, parse}
use Rattle.rules.specs.Image.{final}
use Rattle.rules.specs.Records.{Record, records, record_words}
use Rattle.rules.specs.Form.{form}
use Rattle.rules.specs.Answer.{Outcome, accept, fitting, room, read_parsed, write_parsed, reading, normalising, commands_of, written}
use Rattle.theory.proofs.Numbers.{not-zero, RefusesList, parse-refuses}

fitting-zero : (small : Bool) (ws image buffer : List ℕ) (done : Outcome) → (fitting small ws image buffer done).answer.verdict ≡ 0 → small ≡ false
fitting-zero true ws image buffer done e = let z : ◌≡◌ {A = ℕ} 11 0 = e in absurd (omega arith)
fitting-zero false ws image buffer done e = refl

pub length-record_words : (rs : List Record) → length (record_words rs) ≡ 4 * length rs
length-record_words [] = refl
length-record_words (r ∷ rs) = omega (arith, length-record_words rs)

-- the words that an accepted call has written
pub written-accept : (ws : List ℕ) (cs : List Command) (out image buffer : List ℕ) → written (accept ws cs out image buffer) ≡ out
written-accept ws cs out image buffer = take-append_seam out (drop (length out) buffer)

-- the reader accepts a list of commands
pub record Reads (image ws buffer : List ℕ) (cs : List Command) : Type 0 where
  pub parsed : parse image ws ≡ accepted cs
  pub fits : length (records 0 cs) ≤ room buffer
  pub is : reading ws image buffer ≡ accept ws cs (record_words (records 0 cs)) (final image cs) buffer

-- a call that only reads the image accepts a list of commands, and gives o
pub record Writes (made : List Command → List ℕ) (ws image buffer : List ℕ) (x : Parsed) (o : Outcome) (cs : List Command) : Type 0 where
  pub parsed : x ≡ accepted cs
  pub fits : length (made cs) ≤ length buffer
  pub is : o ≡ accept ws cs (made cs) image buffer

module _ (made : List Command → List ℕ) (ws image buffer : List ℕ) (x : Parsed) where
  pub writes : (cs : List Command) → x ≡ accepted cs → length (made cs) ≤ length buffer
      → Writes made ws image buffer x (write_parsed made ws image buffer x) cs
  writes cs e h =
      let t : ltb (length buffer) (length (made cs)) ≡ false = le-ltb (length buffer) (length (made cs)) h in
      record { parsed = e; fits = h; is = ap (write_parsed made ws image buffer) e ∙ rw t }

  -- verdict 0 says so
  pub writes-zero : RefusesList 4098 x → (write_parsed made ws image buffer x).answer.verdict ≡ 0
      → Writes made ws image buffer x (write_parsed made ws image buffer x) (commands_of x)
  writes-zero r z = by_parsed x refl r z
    where
      by_parsed : (y : Parsed) → x ≡ y → RefusesList 4098 y → (write_parsed made ws image buffer y).answer.verdict ≡ 0
          → Writes made ws image buffer x (write_parsed made ws image buffer x) (commands_of y)
      by_parsed (refused f) e q t = absurd (not-zero q t)
      by_parsed (accepted cs) e q t =
          writes cs e (ltb-false (length buffer) (length (made cs)) (fitting-zero (ltb (length buffer) (length (made cs))) ws image buffer _ t))

-- the normaliser does
abbrev pub Normalises : List ℕ → List ℕ → List ℕ → List Command → Type 0
Normalises image ws buffer cs =
    Writes (λ ds. words_all (form image ds)) ws image buffer (parse image ws) (normalising ws image buffer) cs

module _ (image ws buffer : List ℕ) where
  pub reads : (cs : List Command) → parse image ws ≡ accepted cs → length (records 0 cs) ≤ room buffer → Reads image ws buffer cs
  unfolding reading
  reads cs e h =
      let t : ltb (room buffer) (length (records 0 cs)) ≡ false = le-ltb (room buffer) (length (records 0 cs)) h in
      record { parsed = e; fits = h; is = ap (read_parsed ws image buffer) e ∙ rw t }

  pub normalises : (cs : List Command) → parse image ws ≡ accepted cs → length (words_all (form image cs)) ≤ length buffer → Normalises image ws buffer cs
  unfolding normalising
  normalises cs e h = writes (λ ds. words_all (form image ds)) ws image buffer (parse image ws) cs e h

  read-zero : (x : Parsed) → parse image ws ≡ x → RefusesList 4098 x → (read_parsed ws image buffer x).answer.verdict ≡ 0 → Reads image ws buffer (commands_of x)
  read-zero (refused f) e r z = absurd (not-zero r z)
  read-zero (accepted cs) e r z =
      reads cs e (ltb-false (room buffer) (length (records 0 cs)) (fitting-zero (ltb (room buffer) (length (records 0 cs))) ws image buffer _ z))

  -- verdict 0 says so
  pub reading-zero : (reading ws image buffer).answer.verdict ≡ 0 → Reads image ws buffer (commands_of (parse image ws))
  unfolding reading
  reading-zero z = read-zero (parse image ws) refl (parse-refuses image ws) z

  pub normalising-zero : (normalising ws image buffer).answer.verdict ≡ 0 → Normalises image ws buffer (commands_of (parse image ws))
  unfolding normalising
  normalising-zero z = writes-zero (λ ds. words_all (form image ds)) ws image buffer (parse image ws) (parse-refuses image ws) z
