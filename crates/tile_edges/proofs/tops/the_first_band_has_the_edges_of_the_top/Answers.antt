use Rattle.tile_edges.proofs.TopLaws.{top_above, top_corner}
use Rattle.tile_edges.proofs.tops.the_first_band_has_the_edges_of_the_top.Goals as goal

pub returns : goal.returns
returns c = record { above = top_above; corner = top_corner }
