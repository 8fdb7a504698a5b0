use Rattle.std.proofs.Common.{◌*◌, ◌+◌, get_or}
use Rattle.tile_lanes.proofs.ZeroTests.{IsZeroTest}
use Rattle.tile_lanes.proofs.blank.are_blank_offsets.Given as goal

abbrev pub invariant-loop-i : goal.invariant-loop-i
invariant-loop-i l = IsZeroTest (λ i. get_or l.tile (128 * l.four + i) 0) l.i l.any
