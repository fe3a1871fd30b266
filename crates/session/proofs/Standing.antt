-- The loop of a session: what the rest of the table gives from where it stands is what the whole call gives.
use Prim.Native.Nat.{ℕ, ◌+◌, ◌*◌, ◌/◌, ◌≤◌, ◌<◌}
use native.Mathlib.Omega.{arith}
use mathlib.Core.Path.{◌≡◌, refl, ap, sym, ◌∙◌, subst}
use mathlib.Core.List.{List, []}
use lib.ListN.{length, get_or, drop, length-drop}
use Rattle.std.specs.Simd.{first_chunks}
use Rattle.rules.specs.Session.{SessionOutcome, opened, with_pair, with_pair_of, read_from, reading_scenes}
use Rattle.theory.proofs.Session.{Sound, sound_opened, sound_pair, pair_applied, from_end, from_stopped, from_pair}
use Rattle.session.proofs.Pairs.{pair_words}

module _ (ws table image₀ buffer₀ : List ℕ) where
  -- each list so far was applied
  pub record Standing (k : ℕ) (s : SessionOutcome) : Type 0 where
    pub lists : s.session.lists ≡ k
    pub rest-is : read_from ws (drop (2 * s.session.lists) table) s ≡ reading_scenes ws table image₀ buffer₀
    pub applied : s.session.answer.verdict ≡ 0
    pub sound : Sound buffer₀ s

  pub standing_start : Standing 0 (opened image₀ buffer₀)
  unfolding reading_scenes
  standing_start = record { lists = refl; rest-is = refl; applied = refl; sound = sound_opened image₀ buffer₀ }

  module _ (k : ℕ) (s : SessionOutcome) (h : Standing k s) where
    pub standing_end : length table / 2 ≤ k → s ≡ reading_scenes ws table image₀ buffer₀
    standing_end g = sym (from_end ws (drop (2 * s.session.lists) table) s (omega (arith, h.lists, length-drop (2 * s.session.lists) table))) ∙ h.rest-is

    -- the next pair
    module _ (g : k < length table / 2) (t : SessionOutcome) {chunks : List (List ℕ)} (chunks-are : chunks ≡ first_chunks 2 (length table / 2) table)
        (pair-is : t ≡ with_pair ws (get_or (get_or chunks k []) 0 0) (get_or (get_or chunks k []) 1 0) s) where
      is : t ≡ with_pair_of ws table s.session.lists s
      is =
          let p = pair_words table (length table / 2) k g (omega arith) in
          subst (λ (j : ℕ). t ≡ with_pair_of ws table j s) (sym h.lists) (rw (← p.0, ← p.1, ← chunks-are) pair-is)

      rest : read_from ws (drop (2 * (s.session.lists + 1)) table) t ≡ reading_scenes ws table image₀ buffer₀
      rest = ap (read_from ws (drop (2 * (s.session.lists + 1)) table)) is ∙ sym (from_pair ws table s.session.lists s (omega (arith, h.lists)) h.applied) ∙ h.rest-is

      pub standing_stops : (t.session.answer.verdict ≡ 0 → ⊥) → t ≡ reading_scenes ws table image₀ buffer₀
      standing_stops z = sym (from_stopped ws (drop (2 * (s.session.lists + 1)) table) t z) ∙ rest

      pub one_more : t.session.answer.verdict ≡ 0 → t.session.lists ≡ s.session.lists + 1
      one_more z = ap (λ (o : SessionOutcome). o.session.lists) is ∙ pair_applied ws _ _ s (ap (λ (o : SessionOutcome). o.session.answer.verdict) (sym is) ∙ z)

      pub standing_on : t.session.answer.verdict ≡ 0 → Standing (k + 1) t
      standing_on z = record {
        lists = omega (arith, one_more z, h.lists);
        rest-is = ap (λ (k : ℕ). read_from ws (drop (2 * k) table) t) (one_more z) ∙ rest;
        applied = z;
        sound = subst (Sound buffer₀) (sym is) (sound_pair ws _ _ s buffer₀ h.sound);
      }
