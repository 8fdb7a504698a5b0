use Rattle.tile_edges.proofs.AtHand.{reads_at, reads_of}
use Rattle.tile_edges.proofs.reading.pixels_are_read_at_their_places.Goals as goal

pub returns : goal.returns
returns c = λ x y a b. (reads_at x y a b, reads_of x y a b)
