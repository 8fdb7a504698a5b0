use Rattle.std.proofs.Common.{arith, length-set}
use Rattle.tile_lanes.proofs.LaneClears.{cleared_more, none_cleared}
use Rattle.tile_lanes.proofs.LaneSteps.{held_more}
use Rattle.tile_lanes.proofs.lanes.step.clear_rows.Goals as goal

pub loop-r-init : goal.loop-r-init
loop-r-init c = record { long = omega arith; dots_long = omega arith; in_range = c.requires.in_range; cleared = none_cleared _ _ _ _ }

pub loop-r-preserved : goal.loop-r-preserved
loop-r-preserved c = grind (arith, cleared_more, held_more, length-set)
