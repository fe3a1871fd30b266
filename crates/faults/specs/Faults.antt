-- A command's words against the masks of its row.
use Rattle.std.specs.Prelude.{ℕ, Bool, cond, ◌||◌, List, length, take}
use Rattle.rules.specs.Verdict.{Refusal}
use Rattle.rules.specs.Word.{undefined}
use Rattle.rules.specs.Table.{Row}
use Rattle.rules.specs.Values.{undefined_bit, value_faults}
use Rattle.table.specs.declared.Group.{Group}
use Rattle.table.specs.Tables.{more, mask_at}
use Rattle.values.specs.First.{first_refusal}

-- 6 of word i, where it has an undefined bit
abbrev pub unless_defined : ℕ → ℕ → ℕ → Refusal → Refusal
unless_defined i w mask next = cond (undefined w mask) (undefined_bit i w mask) next

-- the same of the first of a group's words that has one
abbrev pub first_undefined : ℕ → Group → Refusal → Refusal
first_undefined row g next =
    unless_defined 0 g.header (mask_at row 0)
    (unless_defined 1 g.second (mask_at row 1) (unless_defined 2 g.third (mask_at row 2) (unless_defined 3 g.fourth (mask_at row 3) next)))

-- the words after the first that a row's command has of a group
abbrev pub own : Row → Group → List ℕ
own r g = take (length r.more) (more g)

-- the first rule on values that a group breaks: 7 and 15 to 19
abbrev pub value_fault : ℕ → Group → Refusal
value_fault id g = first_refusal (value_faults id g.header (more g))

-- a word of a group has a bit outside its mask
abbrev pub any_undefined : ℕ → Group → Bool
any_undefined row g =
    (undefined g.header (mask_at row 0) || undefined g.second (mask_at row 1))
    || (undefined g.third (mask_at row 2) || undefined g.fourth (mask_at row 3))
