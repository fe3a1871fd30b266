-- Parts of lists: as runs of words, compared, and put from a position on.
use Prim.Native.Nat.{ℕ, zero, suc, ◌+◌, ◌-◌, ◌≤◌, ◌<◌}
use native.Mathlib.Numerals.{add-one}
use native.Mathlib.Omega.{arith}
use mathlib.Core.Path.{◌≡◌, refl, ap, sym, ◌∙◌}
use mathlib.Core.Bool.{◌&&◌}
use Rattle.std.proofs.Math.Bool.{and-true, and_assoc}
use mathlib.Core.List.{List, [], ◌∷◌}
use lib.Dec.{eqb}
use lib.ListN.{length, get_or, set, take, drop, take-append-drop, length-drop}
use Rattle.std.proofs.lemmas.List.{take_all}
use borrow.Author.Tests.{ne_eqb}
use lib.Seq.{sets, length-sets, drop-cons, take-suc, length-take-le}
use Rattle.rules.specs.Word.{id_of, header_of}
use Rattle.rules.specs.Form.{read, equal}
use Rattle.theory.proofs.Image.{sets_append, sets_past}
use Rattle.settings.specs.Output.{is_built}

pub read_take : (l : List ℕ) (at n : ℕ) → at + n ≤ length l → take n (drop at l) ≡ read l at n
read_take l at zero h = refl
read_take l at (suc n) h = ap (take (suc n)) (drop-cons l at 0 (omega arith)) ∙ ap (λ (x : List ℕ). get_or l at 0 ∷ x) (read_take l (suc at) n (omega arith))

equal_suc : (a b : List ℕ) (i : ℕ) → i < length a → i < length b → equal (take (suc i) a) (take (suc i) b) ≡ (equal (take i a) (take i b) && eqb (get_or a i 0) (get_or b i 0))
equal_suc [] b i h k = absurd (omega arith)
equal_suc (x ∷ a) [] i h k = absurd (omega arith)
equal_suc (x ∷ a) (y ∷ b) zero h k = and-true (eqb x y)
equal_suc (x ∷ a) (y ∷ b) (suc i) h k = ap (λ p. eqb x y && p) (equal_suc a b i (omega arith) (omega arith)) ∙ sym (and_assoc (eqb x y) (equal (take i a) (take i b)) (eqb (get_or a i 0) (get_or b i 0)))

pub equal_more : (a b : List ℕ) (i : ℕ) → i < length a → i < length b → equal (take (i + 1) a) (take (i + 1) b) ≡ (equal (take i a) (take i b) && eqb (get_or a i 0) (get_or b i 0))
equal_more a b i h k = rw add-one (equal_suc a b i h k)

-- what has no room is not written
pub put_none : (out : List ℕ) (n : ℕ) (ws : List ℕ) → length out ≤ n → sets out n ws ≡ out
put_none = sets_past

pub put_part : (out : List ℕ) (n : ℕ) (ws : List ℕ) (k : ℕ) → k ≤ length ws → length out ≤ n + k → sets out n (take k ws) ≡ sets out n ws
put_part out n ws k h past =
    sym (sets_past (sets out n (take k ws)) (n + length (take k ws)) (drop k ws) (omega (arith, length-sets out n (take k ws), length-take-le k ws h)))
    ∙ sym (sets_append out n (take k ws) (drop k ws)) ∙ ap (sets out n) (take-append-drop k ws)

-- ---- what the form has built of a command's setting

module _ (command l image : List ℕ) (before : ℕ) (some : 0 < length command) where
  abbrev w : ℕ
  w = get_or command 0 0

  whole : command ≡ w ∷ drop 1 command
  whole = drop-cons command 0 0 some

  pub built_at_start : before ≡ 0 → id_of (get_or command 0 0) + length command ≤ length image
      → is_built (length command - 1) l image (get_or command 0 0) (drop 1 command) before
      ≡ (eqb (get_or image (id_of (get_or command 0 0)) 0) (header_of (get_or command 0 0))
      && equal (take (id_of (get_or command 0 0) + length command - (id_of (get_or command 0 0) + 1)) (drop (id_of (get_or command 0 0) + 1) image)) (take (length command - 1) (drop 1 command)))
  unfolding is_built
  built_at_start e fits =
      let n : id_of w + length command - (id_of w + 1) ≡ length command - 1 = omega arith in
      let own : take (length command - 1) (drop 1 command) ≡ drop 1 command = take_all (length command - 1) (drop 1 command) (omega (arith, length-drop 1 command)) in
      rw (e, n, own, add-one, read_take image (suc (id_of w)) (length command - 1) (omega arith))

  pub built_last : (before ≡ 0 → ⊥) → before + length command ≤ length l + 1
      → is_built (length command - 1) l image (get_or command 0 0) (drop 1 command) before
      ≡ equal (take (before - 1 + length command - (before - 1)) (drop (before - 1) l)) command
  unfolding is_built
  built_last e fits =
      let n : before - 1 + length command - (before - 1) ≡ suc (length command - 1) = omega arith in
      rw (ne_eqb before 0 e, n, read_take l (before - 1) (suc (length command - 1)) (omega arith))
      (ap (equal (read l (before - 1) (suc (length command - 1)))) (sym whole))
