use Rattle.tile_edges.proofs.EdgeLaws.{given_places}
use Rattle.tile_edges.proofs.edges.an_edge_has_its_rows_and_offsets.Goals as goal

pub returns : goal.returns
returns c = given_places
