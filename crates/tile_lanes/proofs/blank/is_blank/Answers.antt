use Rattle.tile_lanes.proofs.ZeroTests.{blank_more}
use Rattle.tile_lanes.proofs.blank.is_blank.Goals as goal

pub loop-four-preserved : goal.loop-four-preserved
loop-four-preserved c = blank_more _ _ c.loop-four.invariant (c.are_blank_offsets.ensures.0 c.if-not-are_blank_offsets.false)
