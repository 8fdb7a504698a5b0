use Rattle.tile_edges.proofs.HandedLaws.{handed_right}
use Rattle.tile_edges.proofs.handed.what_is_handed_is_right.Goals as goal

pub returns : goal.returns
returns c = handed_right
