use Rattle.tile_edges.proofs.EdgeLaws.{given-taken, taken-given}
use Rattle.tile_edges.proofs.edges.an_edge_given_is_an_edge_taken.Goals as goal

pub returns : goal.returns
returns c = λ e d from to xs receiver. (given-taken e d from to xs receiver, taken-given e d from to xs receiver)
