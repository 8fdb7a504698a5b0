use Rattle.tile_lanes.proofs.LaneClears.{none_missing}
use Rattle.tile_lanes.proofs.lanes.clear_missing.Goals as goal

pub returns-else-not-whole-clause-cleared : goal.returns-else-not-whole-clause-cleared
returns-else-not-whole-clause-cleared c = λ f. none_missing _ _ _ _ _ _ _ (c.requires.whole f c.if-not-whole.false)
