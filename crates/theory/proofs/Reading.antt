-- What the reader gives, by refusals and acceptances.
use Prim.Native.Nat.{ℕ, ◌≤◌}
use native.Mathlib.Omega.{arith}
use mathlib.Core.Path.{◌≡◌, refl}
use mathlib.Core.Bool.{Bool, true, false}
use mathlib.Core.List.{List}
use lib.Dec.{ltb}
use lib.ListN.{length, drop, length-append}
use Rattle.rules.specs.Verdict.{Refusal}
use Rattle.rules.specs.Values.{refusal}
use Rattle.rules.specs.Command.{Command}
use Rattle.rules.specs.Walk.{Parsed, refused, accepted, parse}
use Rattle.rules.specs.Image.{final}
use Rattle.rules.specs.Records.{records, record_words}
use Rattle.rules.specs.Answer.{Outcome, refuse, accept, fitting, room, read_parsed, reading}

module _ (ws image buffer : List ℕ) where
  -- what holds of each refusal, and of each acceptance
  pub reading-cases : (P : Outcome → Type 0) → ((f : Refusal) → P (refuse f image buffer))
      → ((cs : List Command) → parse image ws ≡ accepted cs → P (accept ws cs (record_words (records 0 cs)) (final image cs) buffer))
      → P (reading ws image buffer)
  unfolding reading
  reading-cases P refusals acceptances = by_parsed (parse image ws) refl
    where
      by_room : (small : Bool) (done : Outcome) → P done → P (fitting small ws image buffer done)
      by_room true done h = refusals (refusal 11 (length ws))
      by_room false done h = h

      by_parsed : (x : Parsed) → parse image ws ≡ x → P (read_parsed ws image buffer x)
      by_parsed (refused f) e = refusals f
      by_parsed (accepted cs) e = by_room (ltb (room buffer) (length (records 0 cs))) _ (acceptances cs e)

  -- the words written are in the buffer
  pub reading-words : (o : Outcome) → o ≡ reading ws image buffer → o.answer.words ≤ length o.buffer
  reading-words o e = rw e (reading-cases (λ p. p.answer.words ≤ length p.buffer) (λ f. omega arith)
      (λ cs a. let out : List ℕ = record_words (records 0 cs) in omega (arith, length-append out (drop (length out) buffer))))
