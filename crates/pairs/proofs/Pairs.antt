-- The pairs of a buffer by their numbers.
use Prim.Native.Nat.{ℕ, zero, suc, ◌+◌, ◌*◌, ◌/◌, ◌%◌, ◌^◌, ◌<◌}
use native.Mathlib.Omega.{arith}
use mathlib.Core.Path.{◌≡◌, refl, ap, ◌∙◌}
use mathlib.Core.List.{List, [], ◌∷◌}
use lib.ListN.{length, get_or}
use Rattle.std.specs.Simd.{first_chunks}
use Rattle.rules.specs.Word.{id_of}
use Rattle.rules.specs.Pci.{address_count, values}
use Rattle.pairs.specs.View.{addresses}

pub pair_count : (ps : List ℕ) → length (values ps) ≡ length ps / 2
pair_count [] = refl
pair_count (a ∷ []) = refl
pair_count (a ∷ v ∷ ps) = omega (arith, pair_count ps)

pub value_of : (ps : List ℕ) (at : ℕ) → at < length (values ps) → get_or ps (2 * at + 1) 0 ≡ get_or (values ps) at 0
value_of [] at h = absurd (omega arith)
value_of (a ∷ []) at h = absurd (omega arith)
value_of (a ∷ v ∷ ps) zero h = refl
value_of (a ∷ v ∷ ps) (suc at) h =
    let i : 2 * suc at + 1 ≡ suc (suc (2 * at + 1)) = omega arith in
    ap (λ (k : ℕ). get_or (a ∷ v ∷ ps) k 0) i ∙ value_of ps at (omega arith)

chunk_pair : (ps : List ℕ) (k at : ℕ) → at < length (values ps) → length (values ps) ≡ k
    → (get_or (get_or (first_chunks 2 k ps) at []) 0 0 ≡ get_or (addresses ps) at 0) × (get_or (get_or (first_chunks 2 k ps) at []) 1 0 ≡ get_or (values ps) at 0)
chunk_pair (a ∷ v ∷ ps) (suc k) zero h n = (refl, refl)
chunk_pair (a ∷ v ∷ ps) (suc k) (suc at) h n = chunk_pair ps k at (omega arith) (omega arith)
chunk_pair (a ∷ v ∷ ps) zero at h n = absurd (omega arith)
chunk_pair [] k at h n = absurd (omega arith)
chunk_pair (a ∷ []) k at h n = absurd (omega arith)

pub address_of : (ps : List ℕ) (at : ℕ) → at < length (values ps) → get_or ps (2 * at) 0 ≡ get_or (addresses ps) at 0
address_of [] at h = absurd (omega arith)
address_of (a ∷ []) at h = absurd (omega arith)
address_of (a ∷ v ∷ ps) zero h = refl
address_of (a ∷ v ∷ ps) (suc at) h =
    let i : 2 * suc at ≡ suc (suc (2 * at)) = omega arith in
    ap (λ (k : ℕ). get_or (a ∷ v ∷ ps) k 0) i ∙ address_of ps at (omega arith)

-- the pairs as chunks of two words
module _ (ps : List ℕ) (at : ℕ) {chunks : List (List ℕ)} (e : chunks ≡ first_chunks 2 (length ps / 2) ps) (h : at < length (values ps)) where
  pub address_of_chunk : get_or (get_or chunks at []) 0 0 ≡ get_or (addresses ps) at 0
  address_of_chunk = rw e (chunk_pair ps (length ps / 2) at h (pair_count ps)).0

  pub value_of_chunk : get_or (get_or chunks at []) 1 0 ≡ get_or (values ps) at 0
  value_of_chunk = rw e (chunk_pair ps (length ps / 2) at h (pair_count ps)).1

-- a pair's value is a word, and its id a byte
pub value_fits : (ps : List ℕ) (at : ℕ) → at < length (values ps) → get_or ps (2 * at + 1) 0 < 2 ^ 32 → get_or (values ps) at 0 < 2 ^ 32
value_fits ps at h f = omega (arith, value_of ps at h, f)

pub id-small : (ps : List ℕ) (at id : ℕ) → at < length (values ps) → get_or ps (2 * at + 1) 0 < 2 ^ 32 → id ≡ id_of (get_or (values ps) at 0) → id < 256
id-small ps at id h f e = omega (arith, value_of ps at h, f, e)

-- a command has one address at least
pub count-some : (id n : ℕ) → n ≡ address_count id → 0 < n
unfolding address_count
count-some id n e = omega arith

-- the number of an address that a word goes to
pub count-few : (id n word : ℕ) → n ≡ address_count id → word % n < 4
unfolding address_count
count-few id n word e = rw e (omega arith)
