use Rattle.shingle_plan.proofs.Twice.{each_row}
use Rattle.shingle_plan.proofs.laws.each_row_is_fired_twice.Goals as goal

pub returns : goal.returns
returns c = each_row
