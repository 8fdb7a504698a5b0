use Rattle.tile_border.proofs.Given.{given-done, given-inks}
use Rattle.tile_border.proofs.laws.what_is_given_is_right.Goals as goal

pub returns : goal.returns
returns c = record { inks = given-inks; done = given-done }
