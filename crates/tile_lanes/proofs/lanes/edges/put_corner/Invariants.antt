use Rattle.std.proofs.Common.{◌%◌, ◌/◌}
use Rattle.tile_lanes.specs.Paces.{cell_of}
use Rattle.tile_lanes.proofs.HeldBlocks.{IsPut}
use Rattle.tile_lanes.proofs.lanes.edges.put_corner.Given as goal

abbrev pub invariant-loop-n : goal.invariant-loop-n
invariant-loop-n l = IsPut (λ n. cell_of l.pace (n / 6) (n % 6)) (λ n. n) 0 l.n l.corner l.initial.field l.field
