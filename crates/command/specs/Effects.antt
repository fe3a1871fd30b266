-- What the command at a position of an accepted list leaves.
use Rattle.std.specs.Prelude.{ℕ, suc, ◌+◌, ◌≤◌, ◌<◌, List, [], ◌∷◌, length, get_or, take, drop}
use Rattle.rules.specs.Word.{id_of, header_of}
use Rattle.rules.specs.Command.{Command, rest_size}
use Rattle.rules.specs.Records.{records, record_words}
use Rattle.table.specs.Tables.{row_count, row_number, row_at}
use Rattle.command.specs.View.{size_at}

abbrev pub id_at : List ℕ → ℕ → ℕ
id_at l at = id_of (get_or l at 0)

abbrev pub header_at : List ℕ → ℕ → ℕ
header_at l at = header_of (get_or l at 0)

-- the command whose first word stands at a position
unfoldable pub command_at : List ℕ → ℕ → Command
command_at l at =
    record {
      row = row_at (id_at l at);
      header = header_at l at;
      rest = take (rest_size (row_at (id_at l at)) (header_at l at) (drop (suc at) l)) (drop (suc at) l);
    }

-- a whole known command stands there
pub record CommandAt (l : List ℕ) (at : ℕ) : Type 0 where
  pub few : length l ≤ 4096
  pub start : at < length l
  pub small : id_at l at < 256
  pub known : row_number (id_at l at) < row_count
  pub inside : at + size_at l at ≤ length l

-- the words of its record, none for a setting
abbrev pub record_at : List ℕ → ℕ → List ℕ
record_at l at = record_words (records at (command_at l at ∷ []))
