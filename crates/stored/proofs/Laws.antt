-- The loop of a filled buffer, word by word.
use Rattle.std.proofs.Common.{◌≡◌, ℕ, zero, suc, ◌+◌, ◌-◌, ◌%◌, ◌^◌, ◌<◌, ◌≤◌, List, length, set, refl, ap, append-nil, arith}
use lib.Seq.{sets, sets-eq, drop-length}
use Rattle.stored.specs.Digest.{counting}

counting-length : (w n : ℕ) → length (counting w n) ≡ n
counting-length w zero = refl
counting-length w (suc n) = ap suc (counting-length ((w + 1) % 2 ^ 32) n)

-- what is to be put from word i on leaves what the whole leaves
pub filled_start : (w : ℕ) (b : List ℕ) → sets b 0 (counting w (length b - 0)) ≡ counting w (length b)
filled_start w b =
    let k : length b - 0 ≡ length b = omega arith in
    let c : List ℕ = counting w (length b) in
    let long = counting-length w (length b) in
    let l : 0 + length c ≤ length b = omega arith in
    let z : 0 + length c ≡ length b = omega arith in
    rw (k, sets-eq c b 0 l, z, drop-length b) (append-nil c)

pub filled_on : (w i n : ℕ) (b : List ℕ) {v : ℕ} → i < n → v ≡ (w + 1) % 2 ^ 32
    → sets b i (counting w (n - i)) ≡ sets (set b i w) (i + 1) (counting v (n - (i + 1)))
filled_on w i n b h is =
    let k : n - i ≡ suc (n - (i + 1)) = omega arith in
    let e : i + 1 ≡ suc i = omega arith in
    rw (k, is, e)
