use Rattle.dead_nozzles.proofs.Strokes.{all-few, missing-few}
use Rattle.dead_nozzles.proofs.laws.strokes_are_few.Goals as goal

pub returns : goal.returns
returns c = record { strokes = all-few; rows = missing-few }
