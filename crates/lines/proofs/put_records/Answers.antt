use Rattle.text.proofs.Parts.{wrote_none, wrote_then}
use Rattle.format.proofs.Tables.{part-is}
use Rattle.lines.proofs.Records.{lines_none, lines-more}
use Rattle.lines.proofs.put_records.Goals as goal

pub loop-rest-preserved : goal.loop-rest-preserved
loop-rest-preserved c w a =
    let l = c.loop-rest.rest.now in
    c.loop-rest.invariant w
    (rw (lines-more c.args.table.now c.args.format.now l c.in-len4-up.len_at_least) (wrote_then c.put_format.ensures (rw (part-is 4 l) at a)))

pub returns : goal.returns
returns c = c.loop-rest.invariant _ (wrote_none (lines_none c.args.table.now c.args.format.now c.loop-rest.rest.now c.in_default.len_below))
