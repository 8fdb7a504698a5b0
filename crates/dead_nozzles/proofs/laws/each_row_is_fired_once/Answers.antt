use Rattle.dead_nozzles.proofs.MakeUp.{each-row}
use Rattle.dead_nozzles.proofs.laws.each_row_is_fired_once.Goals as goal

pub returns : goal.returns
returns c = each-row
