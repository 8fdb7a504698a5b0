use Rattle.tile_lanes.proofs.LaneOrder.{blend_out}
use Rattle.tile_lanes.proofs.lanes.order.blended.Goals as goal
use Rattle.tile_lanes.proofs.lanes.order.blended.Goals.{then-pairs, else-pairs}

pub returns-clause-blend : goal.returns-clause-blend
returns-clause-blend c = elim c.if-pairs.branch [
  | then-pairs w ↦ blend_out c.args.before c.args.here w.if-pairs.true w.result-is c.requires.before
  | else-pairs w ↦ blend_out c.args.before c.args.here w.if-pairs.false w.result-is c.requires.before
]
