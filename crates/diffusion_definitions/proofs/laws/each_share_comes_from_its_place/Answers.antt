use Rattle.diffusion_definitions.proofs.Places.{taken_from}
use Rattle.diffusion_definitions.proofs.laws.each_share_comes_from_its_place.Goals as goal

pub returns : goal.returns
returns c = taken_from
