use Rattle.desk.proofs.perform.Goals as goal

pub returns-in-Show : goal.returns-in-Show
returns-in-Show c = rw c.in-Show.is (c.show.ensures _)
