use Rattle.dead_nozzles.proofs.Starts.{all-rise}
use Rattle.dead_nozzles.proofs.laws.starts_rise.Goals as goal

pub returns : goal.returns
returns c = all-rise
