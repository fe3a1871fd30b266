-- Refusals by the sizes of files, and what their absence says.
use Prim.Native.Nat.{ℕ, ◌/◌, ◌%◌, ◌≤◌}
use native.Mathlib.Omega.{arith}
use mathlib.Core.Path.{◌≡◌, refl, ap, sym, ◌∙◌}
use mathlib.Core.Bool.{Bool, true, false, cond}
use mathlib.Core.List.{List, []}
use mathlib.Core.Option.{Option, none, some}
use lib.Dec.{eqb, ltb}
use lib.ListN.{length, take, replicate, length-replicate}
use lib.Seq.{sets, take_all, length-sets, length-take-le}
use borrow.Author.Tests.{ltb-false, eqb-true}
use Rattle.std.specs.Prelude.{Result, Ok, Err}
use Rattle.rules.specs.declared.Refusal.{Refusal as Returned}
use Rattle.rules.specs.Verdict.{Refusal}
use Rattle.rules.specs.Values.{refusal}
use Rattle.rules.specs.Returned.{numbered_refusal, numbered, answer_of}
use Rattle.endian.specs.Words.{words_of}
use Rattle.endian.proofs.Words.{words-length, words_front}
use Rattle.desk.specs.declared.Task.{Task}
use Rattle.desk.specs.declared.Task.TheVariants.{Show, Image, Normalise, Pci, List as Pairs}
use Rattle.desk.specs.Desk.{make, perform, most, size_refusal, made}
use Rattle.desk.specs.Sized.{unless}
use Rattle.desk.proofs.Written.{front}

passed : (o : Option Refusal) → unless o ≡ Ok tt → o ≡ none
passed (some f) e = cc
passed none e = refl

failed : (o : Option Refusal) (f : Refusal) → unless o ≡ Err f → o ≡ some f
failed (some g) f e = cc
failed none f e = cc

most-bound : (t : Task) → most t ≤ 32775
most-bound Show = omega arith
most-bound Image = omega arith
most-bound Normalise = omega arith
most-bound Pci = omega arith
most-bound Pairs = omega arith

record Sized (limit input image : ℕ) : Type 0 where
  pub few : input ≤ limit
  pub image-is : image ≡ 1024

sized : (limit input image : ℕ) → size_refusal limit input image ≡ none → Sized limit input image
unfolding size_refusal
sized limit input image e = by_tests (ltb limit input) (eqb (input % 4) 0) (eqb image 1024) refl refl e
  where
    by_tests : (a b c : Bool) → ltb limit input ≡ a → eqb image 1024 ≡ c
        → cond a (some (refusal 1 4096)) (cond b (cond c none (some (refusal 2 0))) (some (refusal 12 (input / 4)))) ≡ none → Sized limit input image
    by_tests true b c x y z = let q : ◌≡◌ {A = ℕ} 0 1 = cc in absurd (omega (arith, q))
    by_tests false false c x y z = let q : ◌≡◌ {A = ℕ} 0 1 = cc in absurd (omega (arith, q))
    by_tests false true false x y z = let q : ◌≡◌ {A = ℕ} 0 1 = cc in absurd (omega (arith, q))
    by_tests false true true x y z = record { few = ltb-false limit input x; image-is = eqb-true image 1024 y }

-- the image's words fill the registers
registers_are : (image : List ℕ) → length image ≡ 1024 → sets (replicate {A = ℕ} 256 0) 0 (words_of image) ≡ words_of image
registers_are image h =
    let k : length (words_of image) ≡ 256 = omega (arith, words-length image, h) in
    let l : length (replicate {A = ℕ} 256 0) ≡ 256 = length-replicate {A = ℕ} 256 0 in
    sym (take_all 256 _ (omega (arith, length-sets (replicate {A = ℕ} 256 0) 0 (words_of image), l))) ∙ front (words_of image) (replicate 256 0) 256 k (omega (arith, l))

-- ---- as the code finds them

module _ (task : Task) (input image : List ℕ) {l : ℕ} (r : Result (Unit {0}) Returned) (el : l ≡ most task) (er : numbered r ≡ unless (size_refusal l (length input) (length image))) where
  told : numbered r ≡ unless (size_refusal (most task) (length input) (length image))
  told = rw el at er

  pub made-refused : {f : Returned} → r ≡ Err f → made task input image ≡ make (answer_of (Err f)) [] [] (length image) []
  unfolding made
  made-refused {f} e = rw (failed (size_refusal (most task) (length input) (length image)) (numbered_refusal f) (sym told ∙ ap numbered e))

  pub size_none : r ≡ Ok tt → size_refusal (most task) (length input) (length image) ≡ none
  size_none e = passed (size_refusal (most task) (length input) (length image)) (sym told ∙ ap numbered e)

-- where no size is refused: the words that are handed on, and their number
module _ (task : Task) (input image : List ℕ) (e : size_refusal (most task) (length input) (length image) ≡ none) where
  s : Sized (most task) (length input) (length image)
  s = sized (most task) (length input) (length image) e

  pub words-room : {words : List ℕ} → words ≡ sets (replicate {A = ℕ} 8193 0) 0 (words_of input) → length input / 4 ≤ length words
  words-room h =
      omega (arith, s.few, most-bound task, ap length h, length-sets (replicate {A = ℕ} 8193 0) 0 (words_of input), length-replicate {A = ℕ} 8193 0)

  pub words-few : {words : List ℕ} → words ≡ sets (replicate {A = ℕ} 8193 0) 0 (words_of input) → length (take (length input / 4) words) ≤ 8193
  words-few {words} h = omega (arith, s.few, most-bound task, length-take-le (length input / 4) words (words-room h))

  words_are : {words : List ℕ} → words ≡ sets (replicate {A = ℕ} 8193 0) 0 (words_of input) → take (length input / 4) words ≡ words_of input
  words_are h =
      ap (take (length input / 4)) h
      ∙ words_front input (replicate 8193 0) (omega (arith, s.few, most-bound task, length-replicate {A = ℕ} 8193 0))

  image_are : {registers : List ℕ} → registers ≡ sets (replicate {A = ℕ} 256 0) 0 (words_of image) → registers ≡ words_of image
  image_are h = h ∙ registers_are image s.image-is

  pub made-is : {words registers : List ℕ} → words ≡ sets (replicate {A = ℕ} 8193 0) 0 (words_of input)
      → registers ≡ sets (replicate {A = ℕ} 256 0) 0 (words_of image)
      → made task input image ≡ perform task (take (length input / 4) words) registers
  unfolding made
  made-is hw hr = rw (e, words_are hw, image_are hr)
