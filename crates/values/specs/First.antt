-- The first fault of a command, as a refusal; number 0 where there is none.
use Rattle.std.specs.Prelude.{Option, Some, None, Bool, cond, not, List, eqb}
use Rattle.rules.specs.declared.Reason.{Reason}
use Rattle.rules.specs.declared.Refusal.{Refusal as Returned}
use Rattle.rules.specs.Verdict.{Refusal}
use Rattle.rules.specs.Returned.{numbered_refusal}
use Rattle.rules.specs.Values.{refusal, Fault, first_fault}
use Rattle.values.specs.declared.Faults.{Faults}

abbrev pub no_refusal : Refusal
no_refusal = refusal 0 0

abbrev pub first_refusal : List Fault → Refusal
first_refusal fs = first_fault (λ f. f) fs no_refusal

-- there is one
abbrev pub found : Refusal → Bool
found f = not (eqb f.number 0)

-- 7 at the first of four words with an illegal value
abbrev pub illegal : Bool → Bool → Bool → Bool → Refusal → Refusal
illegal a b c d next = cond a (refusal 7 0) (cond b (refusal 7 1) (cond c (refusal 7 2) (cond d (refusal 7 3) next)))

-- what is returned: a refusal, or none
abbrev pub refusal_or_none : Option Returned → Refusal
refusal_or_none None = no_refusal
refusal_or_none (Some f) = numbered_refusal f

-- a clash is at the command's first word
abbrev pub clash_of : Option Reason → Refusal
clash_of None = no_refusal
clash_of (Some r) = numbered_refusal (record { reason = r; word = 0 })

-- the first of the rules on values that a command breaks
abbrev pub first_of : Faults → Refusal
first_of f = illegal f.first f.second f.third f.fourth (clash_of f.clash)
