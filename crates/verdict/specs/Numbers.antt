-- An answer by its numbers.
use Rattle.rules.specs.Verdict.{Answer}
use Rattle.verdict.specs.declared.Numbers.{Numbers}

-- the answer with them; of the words written a verdict's text tells nothing
abbrev pub answer_with : Numbers → Answer
answer_with n = record { verdict = n.verdict; bit = n.bit; position = n.position; commands = n.commands; records = n.records; words = 0 }
