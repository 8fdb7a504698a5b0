use Rattle.diffusion_definitions.proofs.Unique.{unique}
use Rattle.diffusion_definitions.proofs.laws.the_rule_has_one_solution.Goals as goal

pub returns : goal.returns
returns c = unique
