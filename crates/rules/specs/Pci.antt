-- A list as the writes that a host makes over PCI (document 02, Ticket 1).
use Rattle.std.specs.Prelude.{ℕ, zero, suc, ◌+◌, ◌*◌, ◌-◌, ◌%◌, cond, not, List, [], ◌∷◌, ◌++◌, eqb, ltb, length}
use Rattle.std.proofs.Math.Option.{Option, none, some}
use Rattle.rules.specs.Verdict.{Refusal}
use Rattle.rules.specs.Word.{id_of}
use Rattle.rules.specs.Command.{Command, words, command_size}
use Rattle.rules.specs.Values.{refusal}
use Rattle.rules.specs.Walk.{Parsed, refused, start, walk, sized, parse}
use Rattle.rules.specs.Answer.{Outcome, write_parsed}

-- ---- from a list to pairs

-- How many addresses a command has, which its words go to in turn. "A group's four words go there and to the next three addresses
-- in steps of 4. Each payload group of a load uses the load's own four addresses again. BEGIN counts as a group". A command of one
-- word asks for the first alone.
unfoldable pub address_count : ℕ → ℕ
address_count id = 4

-- The address of word k, from 0 on, of a command: "a one-word command goes to 2800 hex plus id × 4".
unfoldable pub address : ℕ → ℕ → ℕ
unfolding address_count
address id k = 0x2800 + id * 4 + k % address_count id * 4

-- "pairs of address and value .. Pairs lie in one word buffer, address first": the pairs of a command's words from word k on
abbrev pub pairs_from : ℕ → ℕ → List ℕ → List ℕ
pairs_from id k [] = []
pairs_from id k (w ∷ ws) = address id k ∷ w ∷ pairs_from id (suc k) ws

abbrev pub command_pairs : Command → List ℕ
command_pairs c = pairs_from c.row.id 0 (words c)

abbrev pub pairs_all : List Command → List ℕ
pairs_all [] = []
pairs_all (c ∷ cs) = command_pairs c ++ pairs_all cs

-- "an accepted list has to come out as pairs of address and value": refusals, "the list's own"; then 11
unfoldable pub to_pci : List ℕ → List ℕ → List ℕ → Outcome
to_pci ws image buffer = write_parsed pairs_all ws image buffer (parse image ws)

-- ---- from pairs to the list

-- the values of pairs: the list recovered. "an odd last word is ignored"
abbrev pub values : List ℕ → List ℕ
values [] = []
values (a ∷ []) = []
values (a ∷ v ∷ ps) = v ∷ values ps

-- a command that pairs are inside of: its first pair, its id, and which of its words is next
pub record Inside : Type 0 where
  pub first : ℕ
  pub id : ℕ
  pub word : ℕ

-- pair p with value v is the first of a command
abbrev pub begun : ℕ → ℕ → Inside
begun p v = record { first = p; id = id_of v; word = 1 }

-- one pair further in it
abbrev pub further : Inside → Inside
further o = record { first = o.first; id = o.id; word = suc o.word }

-- 14 "for pairs that stop inside a command", "at the command's first pair"
abbrev pub ended : Inside → ℕ → Option Refusal
ended o zero = none
ended o (suc left) = some (refusal 14 o.first)

-- 13 "for a pair whose address isn't the expected one, at that pair's number, counted from 0"
abbrev pub expecting : ℕ → ℕ → ℕ → Option Refusal → Option Refusal
expecting expected a p later = cond (eqb a expected) later (some (refusal 13 p))

-- 13 or 14 "as the pairs are met", from pair p on, of which the first `left` belong to the command that they are inside of.
-- "an unknown id, 03 or 04 counts as one word at its own address, a load's length is always its header's": `command_size`
unfoldable pub misplaced : Inside → ℕ → ℕ → List ℕ → Option Refusal
misplaced o left p [] = ended o left
misplaced o left p (a ∷ []) = ended o left
misplaced o (suc left) p (a ∷ v ∷ ps) = expecting (address o.id o.word) a p (misplaced (further o) left (suc p) ps)
misplaced o zero p (a ∷ v ∷ ps) = expecting (address (id_of v) 0) a p (misplaced (begun p v) (command_size v (values ps) - 1) (suc p) ps)

-- before the first command: none of it is to come
abbrev pub outside : Inside
outside = record { first = 0; id = 0; word = 0 }

-- 13 or 14, else what the list recovered gives
abbrev pub unless : Option Refusal → Parsed → Parsed
unless (some f) x = refused f
unless none x = x

-- "Order there: 1, 2, 13 or 14 as the pairs are met .., then 3 to 10 of the list recovered"; as many words as pairs
unfoldable pub parse_pairs : List ℕ → List ℕ → Parsed
parse_pairs image ps =
    let ws = values ps in
    sized (ltb 4096 (length ws)) (not (eqb (length image) 256)) (unless (misplaced outside 0 0 ps) (walk (start image) 0 0 ws))

-- "A reader turns pairs back into the list": ".. then 11"
unfoldable pub from_pci : List ℕ → List ℕ → List ℕ → Outcome
from_pci ps image buffer = write_parsed (λ cs. values ps) (values ps) image buffer (parse_pairs image ps)

-- the pairs without "an odd last word"
abbrev pub whole_pairs : List ℕ → List ℕ
whole_pairs [] = []
whole_pairs (a ∷ []) = []
whole_pairs (a ∷ v ∷ ps) = a ∷ v ∷ whole_pairs ps
