use Rattle.tile_border.proofs.Given.{handed-ready}
use Rattle.tile_border.proofs.laws.what_is_handed_is_right.Goals as goal

pub returns : goal.returns
returns c = handed-ready c.what_is_handed_is_right.ensures
