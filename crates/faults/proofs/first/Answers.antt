use Rattle.std.proofs.Common.{rules, ◌≡◌}
use Rattle.values.specs.First.{refusal_or_none, clash_of}
use Rattle.faults.proofs.first.Goals as goal

pub returns : goal.returns
returns c =
    let k : refusal_or_none c.map-clash.result ≡ clash_of c.args.f.clash = search rules in
    rw (c.unless_legal.ensures, c.unless_legal-second.ensures, c.unless_legal-third.ensures, c.unless_legal-fourth.ensures, k)
