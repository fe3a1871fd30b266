use mathlib.Core.Path.{◌≡◌, sym, ap, ◌∙◌}
use Rattle.rules.specs.Word.{id_of}
use Rattle.command.specs.Effects.{id_at}
use Rattle.command.proofs.Effects.{is-work}
use Rattle.reader.proofs.leave_header.Goals as goal

pub returns-then-not-keeps_header : goal.returns-then-not-keeps_header
returns-then-not-keeps_header c = let e : c.id_of-id.result ≡ id_at c.args.list.now c.args.at = c.id_of-id.ensures ∙ ap id_of c.fetch-w.ensures in
    let w = (is-work _ _ c.requires.0 c.requires.1).image-is c.args.image.now in
    sym (w ∙ rw (← e, ← c.keeps_header.ensures, c.if-not-keeps_header.true))

pub returns-then-is_begin : goal.returns-then-is_begin
returns-then-is_begin c = let e : c.id_of-id.result ≡ id_at c.args.list.now c.args.at = c.id_of-id.ensures ∙ ap id_of c.fetch-w.ensures in
    let w = (is-work _ _ c.requires.0 c.requires.1).image-is c.args.image.now in
    sym (w ∙ rw (← e, ← c.keeps_header.ensures, c.if-not-keeps_header.false, ← c.is_begin.ensures, c.if-is_begin.true, c.header_of.ensures, c.fetch-w.ensures))

pub returns : goal.returns
returns c = let e : c.id_of-id.result ≡ id_at c.args.list.now c.args.at = c.id_of-id.ensures ∙ ap id_of c.fetch-w.ensures in
    let w = (is-work _ _ c.requires.0 c.requires.1).image-is c.args.image.now in
    sym (w ∙ rw (← e, ← c.keeps_header.ensures, c.if-not-keeps_header.false, ← c.is_begin.ensures, c.if-is_begin.false, c.header_of-2.ensures, c.fetch-w.ensures))
