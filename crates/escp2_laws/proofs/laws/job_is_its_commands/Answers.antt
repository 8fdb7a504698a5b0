use Rattle.escp2_laws.proofs.Jobs.{commands-said}
use Rattle.escp2_laws.proofs.laws.job_is_its_commands.Goals as goal

pub returns : goal.returns
returns c = commands-said
