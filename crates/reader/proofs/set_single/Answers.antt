use mathlib.Core.Path.{sym}
use Rattle.command.proofs.Effects.{is-single}
use Rattle.reader.proofs.set_single.Goals as goal

pub returns : goal.returns
returns c = rw (c.header_of.ensures, c.id_of-id.ensures, c.fetch-w.ensures) (sym ((is-single _ _ c.requires.0 c.requires.1).image-is c.args.image.now))
