use Rattle.tile_lanes.proofs.LaneOrder.{put_more, rows_kept}
use Rattle.tile_lanes.proofs.lanes.order.put_rows.Goals as goal

pub returns-clause-behind : goal.returns-clause-behind
returns-clause-behind c = put_more _ _ _ c.requires.first c.requires.here c.requires.before c.requires.before2 c.requires.before3
    c.part_of-here.ensures.lanes c.part_of-before.ensures.lanes c.part_of-before2.ensures.lanes c.part_of-before3.ensures.lanes
    c.blended-near.ensures.blend c.blended-far.ensures.blend c.blended.ensures.blend c.put_spread.ensures

pub returns-clause-others : goal.returns-clause-others
returns-clause-others c = rows_kept _ _ _ _ _ c.requires.first c.put_spread.ensures
