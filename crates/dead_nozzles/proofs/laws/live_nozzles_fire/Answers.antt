use Rattle.dead_nozzles.proofs.Starts.{all-live}
use Rattle.dead_nozzles.proofs.laws.live_nozzles_fire.Goals as goal

pub returns : goal.returns
returns c = all-live
