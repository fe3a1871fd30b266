use Rattle.values.specs.Broken.{clip_broken}
use Rattle.values.proofs.clip_faults.Goals as goal

pub returns : goal.returns
unfolding clip_broken
returns c = rw (c.or.ensures, c.then_some.ensures, c.then_some-minimum.ensures, c.page_limit.ensures)
