use Rattle.tile_lanes.proofs.LaneOrder.{four_put}
use Rattle.tile_lanes.proofs.lanes.order.put_four.Goals as goal

pub returns : goal.returns
returns c = four_put c.args.four c.args.at c.args.amounts.now c.requires.four c.requires.at
