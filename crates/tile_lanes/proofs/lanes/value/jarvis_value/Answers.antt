use Rattle.std.proofs.Common.{arith}
use Rattle.tile_lanes.proofs.HeldValues.{jarvis_is}
use Rattle.tile_lanes.proofs.lanes.value.jarvis_value.Goals as goal

pub returns-clause-value : goal.returns-clause-value
returns-clause-value c = grind (arith, jarvis_is)
