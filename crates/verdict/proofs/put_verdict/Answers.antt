use mathlib.Core.Path.{◌≡◌, refl}
use mathlib.Core.List.{List}
use Prim.Native.Nat.{ℕ}
use Rattle.rules.specs.declared.Answer.{Answer}
use Rattle.rules.specs.Returned.{answer_with as any_answer}
use Rattle.verdict.specs.Numbers.{answer_with}
use Rattle.verdict.specs.Verdict.{refusal_text, verdict_text}
use Rattle.verdict.proofs.put_verdict.Goals as goal

-- the text tells nothing of the words written
same-text : (a : Answer) (ws pairs : List ℕ) (bytes : ℕ)
    → verdict_text (answer_with (record { verdict = a.verdict; bit = a.bit; position = a.position; commands = a.commands; records = a.records })) ws pairs bytes
    ≡ verdict_text (any_answer a) ws pairs bytes
unfolding verdict_text refusal_text
same-text a ws pairs bytes = refl

pub returns : goal.returns
returns c = let a = c.args in rw (← same-text a.a a.list.now a.pairs.now a.bytes) c.put_numbers.ensures
