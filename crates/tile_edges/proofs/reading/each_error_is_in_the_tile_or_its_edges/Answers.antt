use Rattle.tile_edges.proofs.AtHand.{at_hand}
use Rattle.tile_edges.proofs.reading.each_error_is_in_the_tile_or_its_edges.Goals as goal

pub returns : goal.returns
returns c = at_hand
