use Rattle.text.proofs.Parts.{wrote_then, wrote_none}
use Rattle.text.proofs.Numbers.{hex_none, hex-more}
use Rattle.text.proofs.Writer.+put_hex.Goals as goal

pub returns-then-digits-eq0 : goal.returns-then-digits-eq0
returns-then-digits-eq0 t c = wrote_none (hex_none _ _ c.if-digits-eq0.true)

pub returns : goal.returns
returns t c = rw (hex-more _ _ c.if-digits-eq0.false, ← c.digit.ensures) (wrote_then c.put_hex.ensures c.put.ensures)
