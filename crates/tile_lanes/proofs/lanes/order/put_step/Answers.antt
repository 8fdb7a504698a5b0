use Rattle.tile_lanes.proofs.LaneOrder.{both_halves}
use Rattle.tile_lanes.proofs.lanes.order.put_step.Goals as goal

pub returns : goal.returns
returns c = both_halves _ _ _ _ _ c.put_rows.ensures.behind c.put_rows.ensures.others c.put_rows-2.ensures.behind c.put_rows-2.ensures.others
