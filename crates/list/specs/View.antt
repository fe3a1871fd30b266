-- The walk along a list, as the code has it: `Rattle.rules`' walk with its commands counted.
use Rattle.std.specs.Prelude.{ℕ, suc, Result, Ok, Err, Bool, not, eqb, ltb, ◌+◌, ◌^◌, ◌≤◌, ◌<◌, ◌≡◌, cond, false, List, [], length, get_or, drop}
use Rattle.std.proofs.Math.Option.{Option, none, some}
use Rattle.rules.specs.Verdict.{Refusal}
use Rattle.rules.specs.Pci.{unless}
use Rattle.rules.specs.Table.{plain, begins, is_setting}
use Rattle.rules.specs.Command.{Command as RulesCommand}
use Rattle.rules.specs.Walk.{State, order_faults, stop, took, step, Parsed, refused, accepted, walk}
use Rattle.rules.specs.Walk.{Step as RulesStep}
use Rattle.rules.specs.Values.{refusal, shift, Fault, first_fault}
use Rattle.rules.specs.Records.{records}
use Rattle.command.specs.declared.Command.{Command}
use Rattle.command.specs.View.{InPlace, Passed}
use Rattle.list.specs.declared.Counts.{Counts}
use Rattle.list.specs.declared.Cursor.{Cursor}

abbrev pub origin : Cursor
origin = record { at = 0; commands = 0; records = 0; flip = false }

-- at most a record a command, and at most a command a word
pub record Counted (c : Cursor) : Type 0 where
  pub work : c.records ≤ c.commands
  pub some : c.commands ≤ c.at

-- a position that the machine's sizes hold
abbrev pub Addressable : ℕ → Type 0
Addressable n = n < 2 ^ 63

-- the cursor after a command
abbrev pub after : Cursor → Command → Cursor
after c k =
    record {
      at = c.at + k.words;
      commands = c.commands + 1;
      records = c.records + cond k.setting 0 1;
      flip = k.base;
    }

-- the commands and the records passed
abbrev pub counts_of : Cursor → Counts
counts_of c = record { commands = c.commands; records = c.records }

-- a state that a cursor stands for, and a command of which just so much is kept: all that the rules on order ask for
abbrev pub some_state : Cursor → State
some_state c = record { order = record { flip = c.flip }; image = [] }

abbrev pub some_command : Command → RulesCommand
some_command k = record { row = record { id = 0; mask = 0; more = []; kind = cond k.begin begins plain }; header = 0; rest = [] }

-- the rules on order that a kept command breaks
abbrev pub kept_faults : Cursor → Command → List Fault
kept_faults c k = order_faults (some_state c) (some_command k)

abbrev pub refuse_at : Cursor → Refusal → Result Command Refusal
refuse_at c f = Err (shift c.at f)

-- a decoded command that is in order, or its refusal
abbrev pub ordered : Cursor → Result Command Refusal → Result Command Refusal
ordered c (Err f) = Err f
ordered c (Ok k) = first_fault (refuse_at c) (kept_faults c k) (Ok k)

-- the cursor after a decoded command, or its refusal
abbrev pub advanced : Cursor → Result Command Refusal → Result Cursor Refusal
advanced c (Err f) = Err f
advanced c (Ok k) = Ok (after c k)

-- the same of one that has to be in order
abbrev pub taken : Cursor → Result Command Refusal → Result Cursor Refusal
taken c d = advanced c (ordered c d)

abbrev pub InsideAfter : Cursor → Result Command Refusal → Type 0
InsideAfter c (Err f) = Unit {0}
InsideAfter c (Ok k) = Addressable (c.at + k.words)

-- the states of the rules that a cursor stands for: those with its flip, whatever the image
pub record StandsFor (c : Cursor) (s : State) : Type 0 where
  pub flip : c.flip ≡ s.order.flip

-- the cursor behind a command, by the state there
abbrev pub behind : Cursor → RulesCommand → State → Cursor
behind c d t =
    record {
      at = c.at + suc (length d.rest);
      commands = c.commands + 1;
      records = c.records + cond (is_setting d.row.kind) 0 1;
      flip = t.order.flip;
    }

abbrev pub view : Cursor → RulesStep → Result Cursor Refusal
view c (stop f) = Err (shift c.at f)
view c (took d t) = Ok (behind c d t)

-- one step of the rules' walk from a state at a cursor
unfoldable pub step_at : List ℕ → State → Cursor → Result Cursor Refusal
step_at l s c = view c (step s (get_or l c.at 0) (drop (suc c.at) l))

-- the step from every state that the cursor stands for
abbrev pub Steps : List ℕ → Cursor → Result Cursor Refusal → Type 0
Steps l c r = (s : State) → StandsFor c s → r ≡ step_at l s c

-- the same in a buffer whose words may be out of place: a refusal holds where the command is in place; a command passed is
module _ (words : List ℕ → List ℕ) (placed : List ℕ → ℕ → ℕ → ℕ → Bool) where
  abbrev pub Stepped : List ℕ → Cursor → Result Cursor Refusal → Type 0
  Stepped b c (Err f) = InPlace words placed b c.at → Steps (words b) c (Err f)
  Stepped b c (Ok e) = Steps (words b) c (Ok e) × Passed words placed b c.at e.at

-- refusals 1 and 2 of the whole list, by the words of the list and of the image
abbrev pub sized_of : ℕ → ℕ → Result (Unit {0}) Refusal
sized_of words image = cond (ltb 4096 words) (Err (refusal 1 4096)) (cond (not (eqb image 256)) (Err (refusal 2 0)) (Ok tt))

-- the counts of an accepted list, or the refusal
abbrev pub walked_of : Parsed → Result Counts Refusal
walked_of (refused f) = Err f
walked_of (accepted cs) = Ok (record { commands = length cs; records = length (records 0 cs) })

-- what the walk finds, from every state that the cursor stands for before the first command
abbrev pub Walks : (State → Parsed) → Result Counts Refusal → Type 0
Walks w r = (s : State) → StandsFor origin s → r ≡ walked_of (w s)

abbrev pub or_else : Option Refusal → Refusal → Refusal
or_else (some f) g = f
or_else none g = g

-- the walk along a buffer from a state: what is amiss with the buffer itself, else that along its words
abbrev pub walk_words : (List ℕ → List ℕ) → (List ℕ → ℕ → Option Refusal) → List ℕ → State → Parsed
walk_words words amiss b s = unless (amiss b 0) (walk s 0 0 (words b))
