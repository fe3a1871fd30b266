-- What the tool makes of the bytes of two files: a text, and the bytes to write.
use Rattle.std.specs.Prelude.{ℕ, ◌/◌, ◌%◌, Bool, false, cond, List, [], ◌∷◌, eqb, ltb, length, replicate}
use Rattle.std.proofs.Math.Option.{Option, none, some}
use Rattle.rules.specs.Verdict.{Answer}
use Rattle.rules.specs.Verdict.{Refusal}
use Rattle.rules.specs.Values.{refusal}
use Rattle.rules.specs.Answer.{Outcome, refused_answer, reading, normalising, written}
use Rattle.rules.specs.Pci.{values, to_pci, from_pci}
use Rattle.endian.specs.Words.{words_of, bytes_of}
use Rattle.text.specs.Text.{ascii}
use Rattle.format.specs.Format.{formatted}
use Rattle.verdict.specs.Verdict.{verdict_text}
use Rattle.show.specs.Show.{show_text}
use Rattle.desk.specs.declared.Task.{Task}
use Rattle.desk.specs.declared.Task.TheVariants.{Show, Image, Normalise, Pci, List as Pairs}

-- whether there are bytes to write, the text of the verdict, what is said once they are written, and the bytes
pub record Made : Type 0 where
  pub writes : Bool
  pub verdict : List ℕ
  pub done : List ℕ
  pub out : List ℕ

-- of an answer on a list, or on pairs and the list that they carry, with the words to write
abbrev pub make : Answer → List ℕ → List ℕ → ℕ → List ℕ → Made
make a ws pairs bytes out =
    let accepted = eqb a.verdict 0 in
    record {
      writes = accepted;
      verdict = verdict_text a ws pairs bytes;
      done = cond accepted (formatted [] (ascii "written %d words\n") (length out ∷ [])) [];
      out = bytes_of out;
    }

-- the words that a call has written
abbrev pub make_written : List ℕ → List ℕ → Outcome → Made
make_written ws pairs o = make o.answer ws pairs 1024 (written o)

-- "the image after the list", where it is accepted
abbrev pub make_image : List ℕ → Outcome → Made
make_image ws o = make o.answer ws [] 1024 (cond (eqb o.answer.verdict 0) o.image [])

-- of the words of a list, or of pairs, and of an image. The buffers are large enough for every list.
unfoldable pub perform : Task → List ℕ → List ℕ → Made
perform Show ws image = record { writes = false; verdict = show_text ws image; done = []; out = [] }
perform Image ws image = make_image ws (reading ws image (replicate 16384 0))
perform Normalise ws image = make_written ws [] (normalising ws image (replicate 4096 0))
perform Pci ws image = make_written ws [] (to_pci ws image (replicate 8192 0))
perform Pairs ps image = make_written (values ps) ps (from_pci ps image (replicate 4096 0))

-- a list has at most 4,096 words, and pairs with their last word odd at most 8,193
abbrev pub most : Task → ℕ
most Show = 16384
most Image = 16384
most Normalise = 16384
most Pci = 16384
most Pairs = 32775

-- "Over 16,384 bytes is refusal 1, ahead of 12; 12 comes before any command is read"; then 2, for an image that is not 256
-- words
unfoldable pub size_refusal : ℕ → ℕ → ℕ → Option Refusal
size_refusal limit input image =
    cond (ltb limit input) (some (refusal 1 4096))
    (cond (eqb (input % 4) 0) (cond (eqb image 1024) none (some (refusal 2 0))) (some (refusal 12 (input / 4))))

abbrev pub by_size : Option Refusal → ℕ → Made → Made
by_size (some f) bytes m = make (refused_answer f) [] [] bytes []
by_size none bytes m = m

unfoldable pub made : Task → List ℕ → List ℕ → Made
made task input image = by_size (size_refusal (most task) (length input) (length image)) (length image) (perform task (words_of input) (words_of image))
