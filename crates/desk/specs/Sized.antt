-- A refusal or none, as what is returned.
use Rattle.std.specs.Prelude.{Result, Ok, Err}
use Rattle.std.proofs.Math.Option.{Option, none, some}
use Rattle.rules.specs.Verdict.{Refusal}

abbrev pub unless : Option Refusal → Result (Unit {0}) Refusal
unless (some f) = Err f
unless none = Ok tt
