use Rattle.text.proofs.Parts.{wrote_then}
use Rattle.report.specs.Listing.{listed}
use Rattle.report.proofs.put_answer.Goals as goal

pub returns-in-Ok : goal.returns-in-Ok
unfolding listed
returns-in-Ok c = rw c.in-Ok.is (wrote_then c.put_all.ensures (wrote_then c.put_records.ensures c.put_counts.ensures))
