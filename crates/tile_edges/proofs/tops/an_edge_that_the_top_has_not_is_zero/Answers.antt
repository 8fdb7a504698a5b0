use Rattle.tile_edges.proofs.TopLaws.{no_top_above, no_top_corner}
use Rattle.tile_edges.proofs.tops.an_edge_that_the_top_has_not_is_zero.Goals as goal

pub returns : goal.returns
returns c = record { above = no_top_above; corner = no_top_corner }
