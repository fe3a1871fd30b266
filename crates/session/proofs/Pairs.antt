-- One pair of a session, as the code reads it: a part of the words, and the rest of the record buffer.
use Prim.Native.Nat.{ℕ, ◌+◌, ◌-◌, ◌*◌, ◌/◌, ◌<◌, ◌≤◌, zero, suc}
use native.Mathlib.Omega.{arith}
use mathlib.Core.Path.{◌≡◌, refl, ap, sym, ◌∙◌, subst}
use mathlib.Core.Bool.{Bool, true, false}
use mathlib.Core.List.{List, [], ◌∷◌}
use lib.ListN.{length, get_or}
use Rattle.std.specs.Prelude.{◌≢◌, ◌↔◌, IsTrue}
use Rattle.std.specs.Simd.{first_chunks}
use Rattle.rules.specs.Values.{refusal}
use Rattle.rules.specs.Answer.{Outcome, outcome, refused_answer, reading}
use Rattle.rules.specs.Session.{part, outside, pair_call}
use Rattle.theory.proofs.Counts.{Counts}
use Rattle.theory.proofs.Session.{call_counts}
use Rattle.session.specs.Call.{IsFew}

pub not_refused : (verdict : ℕ) {b : Bool} → (IsTrue b ↔ (verdict ≢ 0)) → b ≡ false → verdict ≡ 0
not_refused zero i e = refl
not_refused (suc n) i e = let t = i.1 (λ z. absurd (omega arith)) in let f : ◌≡◌ {A = Bool} false true = sym e ∙ t in cc

-- ---- the pairs of a table

pub pair_words : (table : List ℕ) (n i : ℕ) → i < n → n ≤ length table / 2
    → (get_or (get_or (first_chunks 2 n table) i []) 0 0 ≡ get_or table (2 * i) 0) × (get_or (get_or (first_chunks 2 n table) i []) 1 0 ≡ get_or table (2 * i + 1) 0)
pair_words (a ∷ v ∷ table) (suc n) zero h k = (refl, refl)
pair_words (a ∷ v ∷ table) (suc n) (suc i) h k =
    let p = pair_words table n i (omega arith) (omega arith) in
    let first : 2 * suc i ≡ suc (suc (2 * i)) = omega arith in
    let second : 2 * suc i + 1 ≡ suc (suc (2 * i + 1)) = omega arith in
    (p.0 ∙ ap (λ (j : ℕ). get_or (a ∷ v ∷ table) j 0) (sym first), p.1 ∙ ap (λ (j : ℕ). get_or (a ∷ v ∷ table) j 0) (sym second))
pair_words table zero i h k = absurd (omega arith)
pair_words [] (suc n) i h k = absurd (omega arith)
pair_words (a ∷ []) (suc n) i h k = absurd (omega arith)

-- ---- the call for a pair, by the numbers that were read from the table

module _ (ws image buffer : List ℕ) (lists start n first count : ℕ) (first-is : first ≡ start) (count-is : count ≡ n) where
  pub call-outside : outside ws first count lists ≡ true → outcome (refused_answer (refusal 20 0)) image buffer ≡ pair_call ws start n lists image buffer
  unfolding pair_call
  call-outside t = rw (← first-is, ← count-is, t)

  pub call-inside : (o : Outcome) → o ≡ reading (part ws first (first + count - first)) image buffer
      → outside ws first count lists ≡ false → o ≡ pair_call ws start n lists image buffer
  unfolding pair_call
  call-inside o e t =
      let k : first + count - first ≡ count = omega arith in
      rw (← first-is, ← count-is, t) (rw k at e)

pub few : (ws image buffer : List ℕ) (start n lists : ℕ) (o : Outcome) → o ≡ pair_call ws start n lists image buffer → IsFew o.answer
few ws image buffer start n lists o is =
    let c = subst (λ (p : Outcome). Counts p buffer) (sym is) (call_counts ws start n lists image buffer) in
    record { commands = c.commands; records = c.records; words = omega (arith, c.records, c.words) }
