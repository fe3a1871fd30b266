use Rattle.desk.specs.Desk.{perform}
use Rattle.desk.proofs.Making.{image_refused}
use Rattle.desk.proofs.image_after.Goals as goal

pub returns-in-Ok : goal.returns-in-Ok
unfolding perform
returns-in-Ok c = rw (← c.in-Ok.ensures) c.accept.ensures

pub returns-in-Err : goal.returns-in-Err
unfolding perform
returns-in-Err c = rw (← c.in-Err.ensures) (image_refused _ _ _ (c.refuse.ensures _))
