use Rattle.tile_border.proofs.Given.{bottoms-are}
use Rattle.tile_border.proofs.laws.bottoms_are_given.Goals as goal

pub returns : goal.returns
returns c = bottoms-are
