use Rattle.dead_nozzles.proofs.MakeUp.{missing-made}
use Rattle.dead_nozzles.proofs.laws.missing_rows_are_made_up.Goals as goal

pub returns : goal.returns
returns c = missing-made
