-- Parts of a text, put one behind the other.
use Prim.Native.Nat.{ℕ, ◌+◌, ◌<◌, ◌^◌}
use native.Mathlib.Omega.{arith}
use native.Mathlib.Numerals.{add-one}
use mathlib.Core.Path.{◌≡◌, refl, ap, ap₂, sym, ◌∙◌}
use mathlib.Core.List.{List, [], ◌∷◌, ◌++◌}
use lib.ListN.{length, get_or, take, length-append}
use lib.Seq.{sets, take-suc, length-sets}
use Rattle.theory.proofs.Image.{sets_append}
use Rattle.text.specs.declared.Writer.{Writer}
use Rattle.text.specs.Puts.{Puts, Bounded}
use Rattle.text.specs.Wrote.{Wrote}

-- two parts are one
pub puts_then : {p q t u v : List ℕ} {at m n : ℕ} → Puts p t at u m → Puts q u m v n → Puts (p ++ q) t at v n
puts_then {p} {q} {t} {u} {v} {at} {m} {n} a b =
    record {
      next-is = omega (arith, a.next-is, b.next-is, length-append p q);
      text-is = b.text-is ∙ ap₂ (λ (l : List ℕ) (k : ℕ). sets l k q) a.text-is a.next-is ∙ sym (sets_append t at p q);
    }

pub puts-length : {p t u : List ℕ} {at n : ℕ} → Puts p t at u n → length u ≡ length t
puts-length {p} {t} {u} {at} a = ap length a.text-is ∙ length-sets t at p

pub wrote_then : {p q : List ℕ} {u v w : Writer} → Wrote p u v → Wrote q v w → Wrote (p ++ q) u w
wrote_then {p} {q} {u} {v} {w} a b =
    record {
      same-reference = b.same-reference ∙ a.same-reference;
      puts = λ (room : Bounded u.at (p ++ q)).
          let first = a.puts (record { bound = omega (arith, room.bound, length-append p q) }) in
          puts_then first (b.puts (record { bound = omega (arith, room.bound, first.next-is, length-append p q) }));
    }

pub wrote_none : {p : List ℕ} {w : Writer} → p ≡ [] → Wrote p w w
wrote_none e = rw e (record { same-reference = refl; puts = λ _. record { next-is = omega arith; text-is = refl } })

-- one byte more of some bytes
pub wrote-more : (bs : List ℕ) (i : ℕ) {u v w : Writer} → i < length bs → Wrote (take i bs) u v → Wrote (get_or bs i 0 ∷ []) v w → Wrote (take (i + 1) bs) u w
wrote-more bs i h a b = rw (add-one, take-suc bs i 0 h) (wrote_then a b)

-- what a writer put stands in the text that it was lent
pub written : {p t t' : List ℕ} {at n : ℕ} {u v : Writer} → Wrote p u v → u.at ≡ at → at + length p < 2 ^ 64 → u.text.now ≡ t → t' ≡ v.text.now → n ≡ v.at
    → Puts p t at t' n
written a e room before after next = rw (next, after) (rw (e, before) at (a.puts (record { bound = omega arith })))
