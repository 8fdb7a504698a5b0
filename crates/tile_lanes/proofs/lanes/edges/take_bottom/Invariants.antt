use Rattle.std.proofs.Common.{◌%◌, ◌*◌, ◌+◌, ◌/◌}
use Rattle.tile_lanes.specs.Paces.{cell_of}
use Rattle.tile_lanes.proofs.HeldBlocks.{IsTaken}
use Rattle.tile_lanes.proofs.lanes.edges.take_bottom.Given as goal

abbrev pub invariant-loop-t : goal.invariant-loop-t
invariant-loop-t l = IsTaken (λ n. cell_of l.pace (32 + n / 64) (6 + n % 64)) (64 * l.t) 128 l.field l.bottom

abbrev pub invariant-loop-i : goal.invariant-loop-i
invariant-loop-i l = IsTaken (λ n. cell_of l.pace (32 + n / 64) (6 + n % 64)) (64 * l.t + l.i) 128 l.field l.bottom
