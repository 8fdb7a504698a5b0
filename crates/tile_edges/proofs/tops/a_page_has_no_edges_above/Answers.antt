use Rattle.tile_edges.proofs.TopLaws.{no_edges}
use Rattle.tile_edges.proofs.tops.a_page_has_no_edges_above.Goals as goal

pub returns : goal.returns
returns c = no_edges
