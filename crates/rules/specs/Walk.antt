-- The commands of a list, in list order through refusals 3 to 10 (document 01, "Verdicts and what stays").
use Rattle.std.specs.Prelude.{ℕ, zero, suc, Bool, true, false, not, ◌&&◌, List, [], ◌∷◌, eqb, ltb, length}
use Rattle.rules.specs.Table.{is_begin, is_base}
use Rattle.rules.specs.Command.{Command}
use Rattle.rules.specs.Verdict.{Refusal}
use Rattle.rules.specs.Values.{refusal, shift, Fault, fault, first_fault}
use Rattle.rules.specs.Decode.{Decoded, bad, good, decode}
use Rattle.rules.specs.Image.{apply}

-- what the rules on order need of the commands passed: whether the last was a surface base
pub record Order : Type 0 where
  pub flip : Bool

-- before the first command
abbrev pub order_at_start : Order
order_at_start = record { flip = false }

-- what is carried along a list: that, and the image that the next command meets
pub record State : Type 0 where
  pub order : Order
  pub image : List ℕ

abbrev pub start : List ℕ → State
start image = record { order = order_at_start; image = image }

-- The rules on order that a command breaks, each at its first word. Flip (001, 3.3): "after a surface base command (21, 23 or
-- 25) the list ends, or the next command is a BEGIN". 10: "this command follows a surface base and is not a BEGIN"
unfoldable pub order_faults : State → Command → List Fault
order_faults s c = fault (s.order.flip && not (is_begin c.row.kind)) 10 0 ∷ []

unfoldable pub order_after : Order → Command → Order
order_after o c = record { flip = is_base c.row.id }

-- "The image met by a work command is the one just before it."
abbrev pub next : State → Command → State
next s c = record { order = order_after s.order c; image = apply c s.image }

-- one step: a refusal, its word counted from the command's first; or the command, and the state after it
pub data Step : Type 0 where
  stop : Refusal → Step
  took : Command → State → Step

abbrev pub step_decoded : State → Decoded → Step
step_decoded s (bad f) = stop f
step_decoded s (good c) = first_fault stop (order_faults s c) (took c (next s c))

unfoldable pub step : State → ℕ → List ℕ → Step
step s w ws = step_decoded s (decode w ws)

-- the commands of an accepted list, or the refusal
pub data Parsed : Type 0 where
  refused : Refusal → Parsed
  accepted : List Command → Parsed

abbrev pub and_then : Command → Parsed → Parsed
and_then c (refused f) = refused f
and_then c (accepted cs) = accepted (c ∷ cs)

-- from a step at position p on; `go` reads on behind the words of the command
abbrev pub onward : ℕ → (State → ℕ → Parsed) → Step → Parsed
onward p go (stop f) = refused (shift p f)
onward p go (took c t) = and_then c (go t (length c.rest))

-- the list from position p on, of which the first `skip` words belong to the command before
unfoldable pub walk : State → ℕ → ℕ → List ℕ → Parsed
walk s p skip [] = accepted []
walk s p (suc skip) (w ∷ ws) = walk s (suc p) skip ws
walk s p zero (w ∷ ws) = onward p (λ t skip. walk t (suc p) skip ws) (step s w ws)

-- "Order: 1, then 2, then each command in list order": 1 "more than 4,096 words" at 4096, 2 "image not 256 words" at 0
abbrev pub sized : Bool → Bool → Parsed → Parsed
sized true wrong x = refused (refusal 1 4096)
sized false true x = refused (refusal 2 0)
sized false false x = x

-- the whole list, from an image
unfoldable pub parse : List ℕ → List ℕ → Parsed
parse image ws = sized (ltb 4096 (length ws)) (not (eqb (length image) 256)) (walk (start image) 0 0 ws)
