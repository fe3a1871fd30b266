-- The command at a position of a list, as the code has it.
use Rattle.std.specs.Prelude.{ℕ, suc, Result, Ok, Err, ◌+◌, ◌-◌, ◌<◌, ◌≤◌, ◌≡◌, Bool, true, false, ◌&&◌, cond, List, eqb, leb, ltb, length, get_or, drop}
use Rattle.rules.specs.Word.{id_of}
use Rattle.rules.specs.Table.{is_setting, is_begin, is_base}
use Rattle.rules.specs.Command.{command_size}
use Rattle.rules.specs.Command.{Command as RulesCommand}
use Rattle.rules.specs.Verdict.{Refusal}
use Rattle.rules.specs.Values.{refusal, shift}
use Rattle.rules.specs.Decode.{Decoded, bad, good, decode}
use Rattle.command.specs.declared.Command.{Command as Kept}
use Rattle.table.specs.declared.Group.{Group}
use Rattle.table.specs.Tables.{begin_row, base_row, setting_row, row_count, row_number}
use Rattle.values.specs.First.{found}
use Rattle.faults.specs.Faults.{value_fault}

-- the words of the command at a position, payload included
abbrev pub size_at : List ℕ → ℕ → ℕ
size_at l at = command_size (get_or l at 0) (drop (suc at) l)

abbrev pub refused_at : ℕ → ℕ → Result Kept Refusal
refused_at n p = Err (refusal n p)

-- of a command its words and its kind are kept
abbrev pub kept : RulesCommand → Kept
kept c = record { words = suc (length c.rest); setting = is_setting c.row.kind; begin = is_begin c.row.kind; base = is_base c.row.id }

-- a refusal stands at its word of the list
abbrev pub view : ℕ → Decoded → Result Kept Refusal
view at (bad f) = Err (shift at f)
view at (good c) = Ok (kept c)

-- the same by the number of its row, of one word and of four
abbrev pub single_of : ℕ → Kept
single_of row = record { words = 1; setting = setting_row false row; begin = false; base = eqb row base_row }

abbrev pub group_of : ℕ → ℕ → Kept
group_of n row = record { words = n; setting = setting_row true row; begin = eqb row begin_row; base = false }

-- a command whose values break no rule, else its refusal
abbrev pub if_legal : ℕ → ℕ → Group → Result Kept Refusal → Result Kept Refusal
if_legal at id g d = cond (found (value_fault id g)) (Err (shift at (value_fault id g))) d

-- a group of some words, or 9 where the list ends before
abbrev pub whole_group : List ℕ → ℕ → ℕ → ℕ → Result Kept Refusal
whole_group l at n row = cond (ltb (length l) (at + n)) (refused_at 9 at) (Ok (group_of n row))

-- refusals 3 to 9 of the command at a position, or the command
unfoldable pub decoded_at : List ℕ → ℕ → Result Kept Refusal
decoded_at l at = view at (decode (get_or l at 0) (drop (suc at) l))

-- a known command stands at a position, with its id and its row
pub record KnownAt (l : List ℕ) (at id row : ℕ) : Type 0 where
  pub inside : at < length l
  pub id-is : id ≡ id_of (get_or l at 0)
  pub row_is : row ≡ row_number id
  pub known : row < row_count

-- ---- the same in a buffer whose words may be out of place

module _ (words : List ℕ → List ℕ) (placed : List ℕ → ℕ → ℕ → ℕ → Bool) where
  -- the words of the command at a position stand in place
  abbrev pub InPlace : List ℕ → ℕ → Type 0
  InPlace b at = placed b at (size_at (words b) at) (id_of (get_or (words b) at 0)) ≡ true

  -- that command ends there, and is whole and in place
  pub record Passed (b : List ℕ) (at to : ℕ) : Type 0 where
    pub end : to ≡ at + size_at (words b) at
    pub inside : to ≤ length (words b)
    pub right : InPlace b at

  -- what decoding it gives: a refusal holds where it is in place; a command is
  abbrev pub Met : List ℕ → ℕ → Result Kept Refusal → Type 0
  Met b at (Err f) = InPlace b at → Err f ≡ decoded_at (words b) at
  Met b at (Ok k) = (Ok k ≡ decoded_at (words b) at) × Passed b at (at + k.words)

  -- a group with some words behind its own, or 9 where these are not there or not in place
  abbrev pub placed_group : List ℕ → ℕ → ℕ → ℕ → ℕ → Result Kept Refusal
  placed_group b at id n row = cond (leb n (length (words b) - (at + 4)) && placed b (at + 4) n id) (Ok (group_of (4 + n) row)) (refused_at 9 at)
