-- What is written fits its buffer.
use Prim.Native.Nat.{ℕ, ◌≤◌}
use native.Mathlib.Omega.{arith}
use mathlib.Core.Path.{◌≡◌, refl, ap, ◌∙◌}
use mathlib.Core.Bool.{Bool, true, false}
use mathlib.Core.List.{List, ◌++◌}
use lib.Dec.{ltb}
use lib.ListN.{length, take, drop, replicate, length-append, length-replicate}
use lib.Seq.{sets, sets-eq, take_at, length-take-le}
use borrow.Author.Tests.{ltb-false}
use Rattle.rules.specs.Command.{Command, words_all}
use Rattle.rules.specs.Walk.{Parsed, refused, accepted, parse}
use Rattle.rules.specs.Answer.{Outcome, accept, fitting, write_parsed, normalising, written}
use Rattle.rules.specs.Form.{form}
use Rattle.rules.specs.Pci.{pairs_all, values, parse_pairs, to_pci, from_pci}

pub record Fits (o : Outcome) : Type 0 where
  pub inside : o.answer.words ≤ length o.buffer
  pub few : length (written o) ≤ 8192

module _ (made : List Command → List ℕ) (ws image buffer : List ℕ) (small : length buffer ≤ 8192) where
  fits-room : (cs : List Command) (t : Bool) → ltb (length buffer) (length (made cs)) ≡ t → Fits (fitting t ws image buffer (accept ws cs (made cs) image buffer))
  fits-room cs true e = record { inside = omega arith; few = omega arith }
  fits-room cs false e =
      let out : List ℕ = made cs in
      let i : length out ≤ length (out ++ drop (length out) buffer) = omega (arith, length-append out (drop (length out) buffer)) in
      record { inside = i; few = omega (arith, length-take-le (length out) (out ++ drop (length out) buffer) i, ltb-false (length buffer) (length out) e) }

  fits_parsed : (x : Parsed) → Fits (write_parsed made ws image buffer x)
  fits_parsed (refused f) = record { inside = omega arith; few = omega arith }
  fits_parsed (accepted cs) = fits-room cs (ltb (length buffer) (length (made cs))) refl

pub fits_form : (ws image : List ℕ) (o : Outcome) → o ≡ normalising ws image (replicate 4096 0) → Fits o
unfolding normalising
fits_form ws image o e = rw e (fits_parsed (λ cs. words_all (form image cs)) ws image (replicate 4096 0) (omega (arith, length-replicate {A = ℕ} 4096 0)) (parse image ws))

pub fits_pairs : (ws image : List ℕ) (o : Outcome) → o ≡ to_pci ws image (replicate 8192 0) → Fits o
unfolding to_pci
fits_pairs ws image o e = rw e (fits_parsed pairs_all ws image (replicate 8192 0) (omega (arith, length-replicate {A = ℕ} 8192 0)) (parse image ws))

pub fits_list : (ps image : List ℕ) (o : Outcome) → o ≡ from_pci ps image (replicate 4096 0) → Fits o
unfolding from_pci
fits_list ps image o e = rw e (fits_parsed (λ cs. values ps) (values ps) image (replicate 4096 0) (omega (arith, length-replicate {A = ℕ} 4096 0)) (parse_pairs image ps))

-- what is put in front stands there
pub front : (vs before : List ℕ) (n : ℕ) → length vs ≡ n → n ≤ length before → take n (sets before 0 vs) ≡ vs
front vs before n e h = ap (take n) (sets-eq vs before 0 (omega (arith, e))) ∙ take_at vs _ n e
