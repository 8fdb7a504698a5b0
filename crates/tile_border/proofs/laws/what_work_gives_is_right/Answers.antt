use Rattle.tile_border.proofs.Given.{worked-done}
use Rattle.tile_border.proofs.laws.what_work_gives_is_right.Goals as goal

pub returns : goal.returns
returns c = worked-done
