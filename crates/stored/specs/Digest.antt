-- Digests and filled buffers of the stored cases, as the second program has them (second/README.md, "The vectors file").
use Rattle.std.specs.Prelude.{ℕ, zero, suc, ◌+◌, ◌*◌, ◌%◌, ◌^◌, List, [], ◌∷◌}

-- each word w makes the digest d * 16777619 + w
abbrev pub mixed : ℕ → ℕ → ℕ
mixed d w = (d * 16777619 + w) % 4294967296

abbrev pub mixed_all : ℕ → List ℕ → ℕ
mixed_all d [] = d
mixed_all d (w ∷ ws) = mixed_all (mixed d w) ws

-- n words from one on
abbrev pub counting : ℕ → ℕ → List ℕ
counting w zero = []
counting w (suc n) = w ∷ counting ((w + 1) % 2 ^ 32) n
