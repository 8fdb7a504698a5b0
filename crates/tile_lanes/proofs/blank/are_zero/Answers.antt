use Rattle.std.proofs.Common.{arith}
use Rattle.tile_lanes.proofs.ZeroTests.{error_test_more, errors_tested}
use Rattle.tile_lanes.proofs.blank.are_zero.Goals as goal

pub loop-error-preserved : goal.loop-error-preserved
loop-error-preserved c = error_test_more _ _ _ c.requires (omega arith) c.loop-error.invariant

pub returns : goal.returns
returns c = errors_tested _ c.loop-error.error-index _ c.requires (omega arith) (omega arith) c.loop-error.invariant
