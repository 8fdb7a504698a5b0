use Rattle.tile_edges.proofs.TopLaws.{slab_below, slab_dots_below}
use Rattle.tile_edges.proofs.tops.a_slab_is_diffused_below_bottom_edges.Goals as goal

pub returns : goal.returns
returns c = record { errors = slab_below; dots = slab_dots_below }
