use Rattle.dead_nozzles.proofs.Strokes.{all-low}
use Rattle.dead_nozzles.proofs.laws.strokes_start_above_the_end.Goals as goal

pub returns : goal.returns
returns c = all-low
