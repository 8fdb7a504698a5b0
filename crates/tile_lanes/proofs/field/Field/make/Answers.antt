use Rattle.tile_lanes.proofs.LaneTile.{zeros_held}
use Rattle.tile_lanes.proofs.field.Field.make.Goals as goal

pub invariant_of-result : goal.invariant_of-result
invariant_of-result c = record { in_range = zeros_held 3502 }
