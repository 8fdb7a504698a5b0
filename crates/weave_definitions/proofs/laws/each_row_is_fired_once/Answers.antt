use Rattle.weave_definitions.proofs.Firings.{each_row}
use Rattle.weave_definitions.proofs.laws.each_row_is_fired_once.Goals as goal

pub returns : goal.returns
returns c = each_row
