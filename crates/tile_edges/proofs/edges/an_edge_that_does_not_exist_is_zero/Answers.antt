use Rattle.tile_edges.proofs.EdgeLaws.{no_edge}
use Rattle.tile_edges.proofs.edges.an_edge_that_does_not_exist_is_zero.Goals as goal

pub returns : goal.returns
returns c = no_edge
