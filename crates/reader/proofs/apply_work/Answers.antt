use native.Mathlib.Omega.{arith}
use Prim.Native.Nat.{◌+◌}
use mathlib.Core.Path.{ap, ap₂, sym}
use lib.ListN.{length}
use Rattle.reader.specs.declared.Place.{Place}
use Rattle.command.proofs.Effects.{is-work}
use Rattle.reader.proofs.apply_work.Goals as goal

pub size_at-words-requires : goal.size_at-words-requires
size_at-words-requires c = c.requires.0.command.start

pub write_record-requires : goal.write_record-requires
write_record-requires c = (c.requires.0.command, c.requires.1, c.size_at-words.ensures, omega (arith, c.requires.0.fits, ap length (is-work _ _ c.requires.0.command c.requires.1).record_is))

pub overflow_add-result : goal.overflow_add-result
overflow_add-result c = omega (arith, c.size_at-words.ensures, c.requires.0.command.inside, c.requires.0.command.few)

pub overflow_add-result-2 : goal.overflow_add-result-2
overflow_add-result-2 c = omega (arith, c.requires.0.fits, ap length (is-work _ _ c.requires.0.command c.requires.1).record_is)

pub returns : goal.returns
returns c = record {
  place = ap₂ {C = Place} (λ m k. record { at = c.args.p.at + m; written = c.args.p.written + k }) c.size_at-words.ensures (sym (ap length (is-work _ _ c.requires.0.command c.requires.1).record_is));
  image-is = c.leave_header.ensures;
  buffer-is = c.write_record.ensures;
}
