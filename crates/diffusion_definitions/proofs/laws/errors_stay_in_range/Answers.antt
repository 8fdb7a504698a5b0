use Rattle.diffusion_definitions.proofs.InPlane.{errors_in}
use Rattle.diffusion_definitions.proofs.laws.errors_stay_in_range.Goals as goal

pub returns : goal.returns
returns c = errors_in
