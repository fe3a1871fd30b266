-- Counts of verdicts, a row for each function. A count wraps.
use Rattle.std.specs.Prelude.{ℕ, ◌+◌, ◌%◌, ◌^◌, List, [], get_or, set, replicate}

abbrev pub up : ℕ → ℕ
up n = (n + 1) % 2 ^ 32

abbrev pub one_more : List (List ℕ) → ℕ → ℕ → List (List ℕ)
one_more counts function verdict =
    let row = get_or counts function [] in
    set counts function (set row verdict (up (get_or row verdict 0)))

-- n rows of 33 zeros
abbrev pub none : ℕ → List (List ℕ)
none n = replicate n (replicate 33 0)
