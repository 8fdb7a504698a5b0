use Rattle.tile_lanes.proofs.HeldValues.{floyd_is}
use Rattle.tile_lanes.proofs.lanes.value.floyd_value.Goals as goal

pub returns-clause-value : goal.returns-clause-value
returns-clause-value c = let n = c.args.near in floyd_is c.args.amount _ n.left n.up_right n.up n.up_left _ _ _ _ c.from.ensures
