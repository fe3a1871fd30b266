use lib.ListN.{length}
use Rattle.format.proofs.+put_format.Given as goal

abbrev pub decreases-put_format : goal.decreases-put_format
decreases-put_format l = length l.format.now
