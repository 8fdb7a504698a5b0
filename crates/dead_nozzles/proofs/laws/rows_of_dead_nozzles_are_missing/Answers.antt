use Rattle.dead_nozzles.proofs.MakeUp.{missing-dead}
use Rattle.dead_nozzles.proofs.laws.rows_of_dead_nozzles_are_missing.Goals as goal

pub returns : goal.returns
returns c = missing-dead
