use Rattle.tile_edges.proofs.TopLaws.{bottoms_are_top}
use Rattle.tile_edges.proofs.tops.the_bottom_edges_are_the_top_of_the_rest.Goals as goal

pub returns : goal.returns
returns c = bottoms_are_top
