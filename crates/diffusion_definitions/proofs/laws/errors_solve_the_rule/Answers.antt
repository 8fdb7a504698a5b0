use Rattle.diffusion_definitions.proofs.Solve.{errors_top}
use Rattle.diffusion_definitions.proofs.laws.errors_solve_the_rule.Goals as goal

pub returns-clause-top : goal.returns-clause-top
returns-clause-top c = errors_top
