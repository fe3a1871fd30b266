-- One command by itself: refusals 3 to 9 (document 01, "Verdicts and what stays"), 15 to 19 "in 8's old place" (document 02,
-- Ticket 2).
use Rattle.std.specs.Prelude.{ℕ, cond, ◌||◌, List, eqb, ltb, length, take}
use Rattle.std.proofs.Math.Option.{Option, none, some}
use Rattle.rules.specs.Word.{id_of, header_of}
use Rattle.rules.specs.Table.{Row, row_of}
use Rattle.rules.specs.Command.{Command, own_size, rest_size}
use Rattle.rules.specs.Verdict.{Refusal}
use Rattle.rules.specs.Values.{refusal, first_fault, faults}

-- a command, or a refusal whose word is counted from the command's first
pub data Decoded : Type 0 where
  bad : Refusal → Decoded
  good : Command → Decoded

-- 5 "fewer than four words left for a group", 6, 7, 15 to 19, then 9 "payload cut short":
-- the command of a row with a header, before the words that follow it in the list
unfoldable pub decode_row : Row → ℕ → List ℕ → Decoded
decode_row r h ws =
    let own = own_size r h in
    let all = rest_size r h ws in
    let whole = cond (ltb (length ws) all) (bad (refusal 9 0)) (good (record { row = r; header = h; rest = take all ws })) in
    cond (ltb (length ws) own) (bad (refusal 5 0)) (first_fault bad (faults r h (take own ws)) whole)

-- 3 "unknown id", 4 "id 03 or 04"
abbrev pub unknown : ℕ → ℕ
unknown id = cond (eqb id 3 || eqb id 4) 4 3

abbrev pub decode_known : ℕ → List ℕ → Option Row → Decoded
decode_known w ws none = bad (refusal (unknown (id_of w)) 0)
decode_known w ws (some r) = decode_row r (header_of w) ws

-- the command whose first word is w, before the words ws
unfoldable pub decode : ℕ → List ℕ → Decoded
decode w ws = decode_known w ws (row_of (id_of w))
