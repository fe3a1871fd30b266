use Rattle.text.proofs.Parts.{wrote_then}
use Rattle.format.proofs.Tables.{part-is}
use Rattle.format.proofs.Formats.{format_rest, format_short, format_byte, format_hole}
use Rattle.format.proofs.+put_format.Goals as goal

pub returns-in_default : goal.returns-in_default
returns-in_default t c = rw (format_rest _ _ _ c.in_default.len_below) c.put_all.ensures

pub returns-in_default-format : goal.returns-in_default-format
returns-in_default-format t c = rw (format_short _ _ _ c.in_default-format.len_below) c.put_all-in_default-format.ensures

pub returns-then-byte-eq37 : goal.returns-then-byte-eq37
returns-then-byte-eq37 t c =
    rw (format_hole _ _ _ c.in-len2-up.len_at_least c.in-len1-up.len_at_least c.if-byte-eq37.true)
    (wrote_then c.put_hole.ensures (rw (part-is 2 c.args.format.now, part-is 1 c.args.numbers.now) at c.put_format.ensures))

pub returns-else-byte-eq37 : goal.returns-else-byte-eq37
returns-else-byte-eq37 t c =
    rw (format_byte _ _ _ c.in-len2-up.len_at_least c.in-len1-up.len_at_least c.if-byte-eq37.false)
    (wrote_then c.put.ensures (rw (part-is 1 c.args.format.now) at c.put_format-else-byte-eq37.ensures))
