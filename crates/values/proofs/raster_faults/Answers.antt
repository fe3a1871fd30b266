use Rattle.values.specs.Broken.{raster_broken}
use Rattle.values.proofs.raster_faults.Goals as goal

pub returns : goal.returns
unfolding raster_broken
returns c = rw c.then_some.ensures
