use Rattle.tile_lanes.specs.Order.{AreAllBehind}
use Rattle.tile_lanes.proofs.lanes.order.put_inner_steps.Given as goal

abbrev pub invariant-loop-step : goal.invariant-loop-step
invariant-loop-step l = AreAllBehind l.tile 3 l.initial.amounts → AreAllBehind l.tile l.step l.amounts
