use Rattle.std.proofs.Common.{of_z, w16}
use Rattle.tile_lanes.proofs.ZeroTests.{IsZeroTest, bits_of}
use Rattle.tile_lanes.proofs.blank.are_zero.Given as goal

abbrev pub invariant-loop-error : goal.invariant-loop-error
invariant-loop-error l = IsZeroTest (bits_of l.errors) l.error-index (of_z w16 l.any)
