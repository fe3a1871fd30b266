-- What is made of a refusal, and of an acceptance.
use Prim.Native.Nat.{ℕ, ◌*◌, ◌≤◌}
use native.Mathlib.Omega.{arith}
use mathlib.Core.Path.{◌≡◌, refl, ap, sym, subst}
use mathlib.Core.Bool.{false, cond}
use mathlib.Core.List.{List, [], ◌∷◌, append-nil}
use lib.Dec.{eqb}
use lib.ListN.{length, length-append}
use lib.Seq.{sets}
use Rattle.std.specs.Prelude.{Ok, Err, Some, None}
use Rattle.rules.specs.declared.Reason.{Reason}
use Rattle.rules.specs.declared.Refusal.{Refusal as Returned}
use Rattle.rules.specs.declared.Accepted.{Accepted}
use Rattle.rules.specs.Returned.{number_of, answer_of}
use Rattle.endian.specs.Words.{bytes_of}
use Rattle.endian.proofs.Bytes.{bytes-length}
use Rattle.text.specs.Text.{ascii}
use Rattle.text.specs.Puts.{Puts}
use Rattle.text.proofs.Parts.{puts_then}
use Rattle.format.specs.Format.{formatted}
use Rattle.format.proofs.Lengths.{formatted-length}
use Rattle.verdict.specs.Verdict.{verdict_text}
use Rattle.verdict.proofs.Lengths.{verdict-length}
use Rattle.desk.specs.declared.Sizes.{Sizes}
use Rattle.desk.specs.Desk.{make}
use Rattle.desk.specs.Makes.{Makes}

refused-number : (r : Reason) → eqb (number_of r) 0 ≡ false
refused-number r = grind arith

abbrev written_line : List ℕ → List ℕ
written_line words = formatted [] (ascii "written %d words\n") (length words ∷ [])

pub written_bound : (words : List ℕ) → length (written_line words) ≤ 60
written_bound words = omega (arith, formatted-length [] 0 refl (ascii "written %d words\n") (length words ∷ []))

module _ (ws pairs : List ℕ) (bytes : ℕ) {text₀ text out : List ℕ} {n : ℕ} where
  pub makes_refused : (f : Returned) → Puts (verdict_text (answer_of (Err f)) ws pairs bytes) text₀ 0 text n
      → Makes (make (answer_of (Err f)) ws pairs bytes []) text₀ out text out (record { verdict = n; text = n; out = None })
  unfolding bytes_of
  makes_refused f put =
      let shown : List ℕ = verdict_text (answer_of (Err f)) ws pairs bytes in
      rw (refused-number f.reason)
      (record {
        text-is = rw (append-nil shown) put.text-is;
        verdict-size = omega (arith, put.next-is);
        text-size = rw (append-nil shown) (omega (arith, put.next-is));
        out-is = refl;
        unwritten = λ e. refl;
        out-size = refl;
        text-bound = rw (append-nil shown) (omega (arith, verdict-length (answer_of (Err f)) ws pairs bytes));
        out-bound = omega arith;
      })

  pub makes_accepted : (a : Accepted) (words : List ℕ) {text' out₀ : List ℕ} {k : ℕ} → length words ≤ 8192
      → Puts (verdict_text (answer_of (Ok a)) ws pairs bytes) text₀ 0 text n → Puts (written_line words) text n text' k → out ≡ sets out₀ 0 (bytes_of words)
      → Makes (make (answer_of (Ok a)) ws pairs bytes words) text₀ out₀ text' out (record { verdict = n; text = k; out = Some (4 * length words) })
  makes_accepted a words few put more stored =
      let p = puts_then put more in
      let shown : List ℕ = verdict_text (answer_of (Ok a)) ws pairs bytes in
      record {
        text-is = p.text-is;
        verdict-size = omega (arith, put.next-is);
        text-size = omega (arith, p.next-is);
        out-is = stored;
        unwritten = λ e. cc;
        out-size = ap Some (sym (bytes-length words));
        text-bound = omega (arith, length-append shown (written_line words), verdict-length (answer_of (Ok a)) ws pairs bytes, written_bound words);
        out-bound = omega (arith, bytes-length words);
      }

-- the image after a list that is refused
pub image_refused : (ws : List ℕ) (f : Returned) (image : List ℕ) {text₀ out₀ text out : List ℕ} {s : Sizes} → Makes (make (answer_of (Err f)) ws [] 1024 []) text₀ out₀ text out s
    → Makes (make (answer_of (Err f)) ws [] 1024 (cond (eqb (number_of f.reason) 0) image [])) text₀ out₀ text out s
image_refused ws f image {text₀} {out₀} {text} {out} {s} m =
    subst (λ b. Makes (make (answer_of (Err f)) ws [] 1024 (cond b image [])) text₀ out₀ text out s) (sym (refused-number f.reason)) m
