use Rattle.board_core.proofs.Records.{any_order}
use Rattle.board_core.proofs.laws.any_order.Goals as goal

pub returns : goal.returns
returns c = any_order
