use mathlib.Core.Path.{◌∙◌}
use Rattle.command.proofs.Effects.{is-work}
use Rattle.reader.proofs.write_record.Goals as goal

pub returns : goal.returns
returns c = c.put4.ensures ∙ rw (c.header_of.ensures, c.id_of.ensures, c.fetch-w.ensures, c.requires.2, (is-work _ _ c.requires.0 c.requires.1).record_is)
