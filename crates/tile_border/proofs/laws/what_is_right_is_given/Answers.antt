use Rattle.tile_border.proofs.Given.{given-is}
use Rattle.tile_border.proofs.laws.what_is_right_is_given.Goals as goal

pub returns : goal.returns
returns c = given-is
