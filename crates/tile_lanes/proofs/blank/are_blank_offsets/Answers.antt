use Rattle.std.proofs.Common.{refl}
use Rattle.tile_lanes.proofs.ZeroTests.{zero_test_more}
use Rattle.tile_lanes.proofs.blank.are_blank_offsets.Goals as goal

pub loop-i-preserved : goal.loop-i-preserved
loop-i-preserved c = zero_test_more _ _ _ _ refl c.loop-i.invariant
