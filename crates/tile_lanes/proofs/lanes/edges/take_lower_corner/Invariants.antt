use Rattle.std.proofs.Common.{◌%◌, ◌*◌, ◌+◌, ◌/◌}
use Rattle.tile_lanes.specs.Paces.{cell_of}
use Rattle.tile_lanes.proofs.HeldBlocks.{IsTaken}
use Rattle.tile_lanes.proofs.lanes.edges.take_lower_corner.Given as goal

abbrev pub invariant-loop-t : goal.invariant-loop-t
invariant-loop-t l = IsTaken (λ n. cell_of l.pace (32 + n / 6) (64 + n % 6)) (6 * l.t) 12 l.field l.corner

abbrev pub invariant-loop-i : goal.invariant-loop-i
invariant-loop-i l = IsTaken (λ n. cell_of l.pace (32 + n / 6) (64 + n % 6)) (6 * l.t + l.i) 12 l.field l.corner
