use Rattle.text.proofs.Parts.{wrote_then}
use Rattle.verdict.specs.Verdict.{refusal_text}
use Rattle.verdict.proofs.put_refusal.Goals as goal

pub returns : goal.returns
unfolding refusal_text
returns c =
    wrote_then c.put_refused.ensures (wrote_then c.put_image.ensures (wrote_then c.put_address.ensures
    (wrote_then c.put_place.ensures (wrote_then c.put_bit.ensures c.put_why.ensures))))
