use Rattle.std.proofs.Common.{◌%◌, ◌*◌, ◌+◌, ◌/◌}
use Rattle.tile_lanes.specs.Paces.{cell_of}
use Rattle.tile_lanes.proofs.HeldBlocks.{IsPut}
use Rattle.tile_lanes.proofs.lanes.edges.put_above.Given as goal

abbrev pub invariant-loop-t : goal.invariant-loop-t
invariant-loop-t l =
    IsPut (λ n. cell_of l.pace (n / 64) (6 + n % 64)) (λ n. n) 0 (64 * l.t) l.above l.initial.field l.field

abbrev pub invariant-loop-i : goal.invariant-loop-i
invariant-loop-i l =
    IsPut (λ n. cell_of l.pace (n / 64) (6 + n % 64)) (λ n. n) 0 (64 * l.t + l.i) l.above l.fn.field l.field
