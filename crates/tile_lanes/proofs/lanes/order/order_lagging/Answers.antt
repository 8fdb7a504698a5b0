use Rattle.tile_lanes.proofs.LaneOrder.{all_steps, no_steps}
use Rattle.tile_lanes.proofs.lanes.order.order_lagging.Goals as goal

pub returns : goal.returns
returns c = all_steps _ _
    (c.put_step-6.ensures (c.put_step-5.ensures (c.put_step-4.ensures (c.put_inner_steps.ensures
    (c.put_step-3.ensures (c.put_step-2.ensures (c.put_step.ensures (no_steps _ _))))))))
