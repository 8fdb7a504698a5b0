-- The tile that an edge comes from: one column to the left, one to the right in the band above, or straight above.
use Rattle.std.proofs.Common.{arith, ◌-◌, ◌+◌}
use Rattle.tile_shape.specs.Geometry.{IsNeeded, IsReceiver, IsTile}
use Rattle.tile_shape.specs.declared.tiles.Dir.{Dir}
use Rattle.tile_shape.specs.declared.tiles.Dir.TheVariants.{Right, Bottom, Corner}
use Rattle.tile_shape.specs.declared.tiles.Place.{Place}
use Rattle.tile_shape.specs.declared.tiles.Shape.{Shape}
use Rattle.tile_shape.proofs.laws.an_edge_is_needed_where_it_is_given.Goals as goal

given : (s : Shape) (d : Dir) (p : Place) → IsTile s p → IsNeeded s d p → (from : Place) × (IsTile s from × IsReceiver d from p)
given s Right p tile needed = (record { c = p.c - 1; j = p.j }, search arith)
given s Bottom p tile needed = (record { c = p.c + 1; j = p.j - 1 }, search arith)
given s Corner p tile needed = (record { c = p.c; j = p.j - 1 }, search arith)

needed : (s : Shape) (d : Dir) (p from : Place) → IsTile s from → IsReceiver d from p → IsNeeded s d p
needed s Right p from tile receiver = omega arith
needed s Bottom p from tile receiver = search arith
needed s Corner p from tile receiver = omega arith

pub returns : goal.returns
returns c = λ s d p tile. (given s d p tile, λ (from, gives). needed s d p from gives.0 gives.1)
