use Rattle.tile_edges.proofs.Places.{place_has, place_without}
use Rattle.tile_edges.proofs.edges.each_place_has_its_error.Goals as goal

pub returns : goal.returns
returns c = record { pixel = place_has; none = place_without }
