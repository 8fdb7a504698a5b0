use Rattle.tile_lanes.proofs.LaneSteps.{both_stepped}
use Rattle.tile_lanes.proofs.lanes.step.diffuse_step.Goals as goal

pub returns-clause-step : goal.returns-clause-step
returns-clause-step c = both_stepped c.args.step c.requires.low c.diffuse_half.ensures.step c.diffuse_half-2.ensures.step
