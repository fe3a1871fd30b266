use native.Mathlib.Omega.{arith}
use borrow.Author.Rules.{rules}
use mathlib.Core.Bool.{false}
use mathlib.Core.Path.{◌≡◌, sym}
use mathlib.Core.List.{[]}
use lib.Dec.{eqb}
use lib.ListN.{take}
use lib.Seq.{length-take-le}
use Rattle.std.specs.Prelude.{Ok, Err}
use Rattle.rules.specs.declared.Reason.{Reason}
use Rattle.rules.specs.Returned.{number_of, answer_of}
use Rattle.text.proofs.Parts.{written}
use Rattle.theory.proofs.Reading.{reading-words}
use Rattle.verdict.proofs.Lengths.{verdict-length}
use Rattle.show.specs.Show.{show_text}
use Rattle.show.proofs.Lengths.{accepted-length, written-few}
use Rattle.show.proofs.put_show.Goals as goal

numbered : (r : Reason) → eqb (number_of r) 0 ≡ false
numbered r = grind arith

pub returns-in_default : goal.returns-in_default
unfolding show_text
returns-in_default c =
    let f = c.in_default.field-0 in
    let p = rw (c.into.ensures, c.in_default.is) at c.put_verdict.ensures in
    record {
      puts = rw (← c.in_default.ensures, numbered f.reason) p;
      upper_bound = omega (arith, p.next-is, verdict-length (answer_of (Err f)) c.args.list.now [] 1024);
    }

pub returns : goal.returns
unfolding show_text
returns c =
    let a = answer_of (Ok c.in-Ok.a) in
    let few = accepted-length (take a.words c.read-answer.new.records) (written-few _ _ _ _ c.in-Ok.ensures) a c.args.image.now c.read-answer.new.image c.words_of-form.result in
    let new = c.new-writer.ensures in
    let p = written c.put_accepted.ensures new.position (omega (arith, few)) new.same_text (search rules) c.position.ensures in
    record {
      puts = rw (← c.in-Ok.ensures, ← c.measure.ensures, ← c.words_of-form.ensures) p;
      upper_bound = omega (arith, c.position.ensures, p.next-is, few);
    }

pub slice_bounds-records-end : goal.slice_bounds-records-end
slice_bounds-records-end c = reading-words _ _ _ _ c.in-Ok.ensures

pub slice_bounds-put_accepted-end : goal.slice_bounds-put_accepted-end
slice_bounds-put_accepted-end c = sym (length-take-le _ _ (reading-words _ _ _ _ c.in-Ok.ensures))
