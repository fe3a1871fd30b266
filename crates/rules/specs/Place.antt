-- The command that a word of a list stands in, and the word's mask.
use Rattle.std.specs.Prelude.{ℕ, zero, suc, ◌-◌, cond, List, [], ◌∷◌, eqb, get_or}
use Rattle.std.proofs.Math.Option.{Option, none, some}
use Rattle.rules.specs.Word.{id_of, header_of, first_word}
use Rattle.rules.specs.Table.{Row, row_of}
use Rattle.rules.specs.Command.{more_masks, command_size}

-- The first word's position of the command that word p stands in, looked for from position `at` on; the next `skip` words
-- belong to the command that began at `first`. By sizes alone: "an unknown id, 03 or 04 counts as one word .., a load's length
-- is always its header's" (document 02, Ticket 1).
unfoldable pub start_from : ℕ → ℕ → ℕ → ℕ → List ℕ → ℕ
start_from p first skip at [] = first
start_from p first (suc skip) at (w ∷ ws) = cond (eqb at p) first (start_from p first skip (suc at) ws)
start_from p first zero at (w ∷ ws) = cond (eqb at p) at (start_from p at (command_size w ws - 1) (suc at) ws)

abbrev pub start_of : List ℕ → ℕ → ℕ
start_of ws p = start_from p 0 0 0 ws

-- The masks of a command's own words. "The masks show the defined bits, first word's header first" (document 01); in a first
-- word "id bits count as defined" (document 02, Ticket 6).
abbrev pub own_masks : Row → ℕ → List ℕ
own_masks r header = first_word 0xFF r.mask ∷ more_masks r header

-- the mask of word k of a command, by its header and its row. Payload words are data, and have every bit; an unknown id has no
-- masks, and no defined bit but the id's.
abbrev pub mask_in : ℕ → ℕ → Option Row → ℕ
mask_in k header none = first_word 0xFF 0
mask_in k header (some r) = get_or (own_masks r header) k 0xFFFFFFFF

-- the mask of the word at a position of a list
unfoldable pub word_mask : List ℕ → ℕ → ℕ
unfolding start_from
word_mask ws p =
    let first = start_of ws p in
    let w = get_or ws first 0 in
    mask_in (p - first) (header_of w) (row_of (id_of w))
