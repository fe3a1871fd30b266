use native.Mathlib.Omega.{arith}
use mathlib.Core.Path.{◌≡◌, sym, ap, ◌∙◌}
use Rattle.rules.specs.Word.{id_of}
use Rattle.command.specs.Effects.{id_at}
use Rattle.command.proofs.Effects.{is-group}
use Rattle.reader.proofs.set_group.Goals as goal

pub group_at-g-requires : goal.group_at-g-requires
group_at-g-requires c = (is-group _ _ c.requires.0 c.requires.1).inside

pub put4-requires : goal.put4-requires
put4-requires c = let e : c.id_of-id.result ≡ id_at c.args.list.now c.args.at = c.id_of-id.ensures ∙ ap id_of c.fetch.ensures in
    omega (arith, e, (is-group _ _ c.requires.0 c.requires.1).fits, c.requires.2)

pub returns : goal.returns
returns c = c.put4.ensures ∙ rw (c.id_of-id.ensures, c.fetch.ensures, c.group_at-g.ensures) (sym ((is-group _ _ c.requires.0 c.requires.1).image-is c.args.image.now))
