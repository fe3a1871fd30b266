use mathlib.Core.Path.{sym}
use lib.Seq.{length-take-le}
use Rattle.desk.specs.Desk.{perform}
use Rattle.desk.proofs.Written.{fits_form}
use Rattle.desk.proofs.normalise.Goals as goal

pub returns-in-Ok : goal.returns-in-Ok
unfolding perform
returns-in-Ok c = rw (← c.in-Ok.ensures) c.accept.ensures

pub returns-in-Err : goal.returns-in-Err
unfolding perform
returns-in-Err c = rw (← c.in-Err.ensures) (c.refuse.ensures _)

pub slice_bounds-form-end : goal.slice_bounds-form-end
slice_bounds-form-end c = (fits_form _ _ _ c.in-Ok.ensures).inside

pub slice_bounds-accept-end-in-Ok : goal.slice_bounds-accept-end-in-Ok
slice_bounds-accept-end-in-Ok c = sym (length-take-le _ _ (fits_form _ _ _ c.in-Ok.ensures).inside)
