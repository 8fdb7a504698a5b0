use Rattle.std.proofs.Common.{◌%◌, ◌*◌, ◌+◌, ◌/◌}
use Rattle.tile_lanes.specs.Paces.{cell_of}
use Rattle.tile_lanes.proofs.HeldBlocks.{IsPut}
use Rattle.tile_lanes.proofs.lanes.edges.put_left.Given as goal

abbrev pub invariant-loop-t : goal.invariant-loop-t
invariant-loop-t l =
    IsPut (λ n. cell_of l.pace (2 + n / 6) (n % 6)) (λ n. n) 0 (6 * l.t) l.left l.initial.field l.field

abbrev pub invariant-loop-i : goal.invariant-loop-i
invariant-loop-i l =
    IsPut (λ n. cell_of l.pace (2 + n / 6) (n % 6)) (λ n. n) 0 (6 * l.t + l.i) l.left l.fn.field l.field
