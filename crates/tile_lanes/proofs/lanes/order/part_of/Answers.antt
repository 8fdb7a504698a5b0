use Rattle.std.proofs.lemmas.Simd.{get_or-chunk}
use Rattle.tile_lanes.proofs.lanes.order.part_of.Goals as goal

pub returns-clause-lanes : goal.returns-clause-lanes
returns-clause-lanes c = λ m low. get_or-chunk c.args.at 16 c.args.amounts.now m 0 low
