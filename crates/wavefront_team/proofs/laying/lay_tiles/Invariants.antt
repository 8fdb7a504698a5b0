use Rattle.std.proofs.Common.{◌*◌}
use Rattle.tile_shape.specs.Geometry.{columns_of}
use Rattle.wavefront_team.specs.Dots.{dots_of}
use Rattle.wavefront_team.specs.Laying.{LaysTiles}
use Rattle.wavefront_team.proofs.laying.lay_tiles.Given as goal

abbrev pub invariant-loop-j : goal.invariant-loop-j
invariant-loop-j l = LaysTiles l.shape l.at (l.j * columns_of l.shape) l.tiles (dots_of l.fn.out) (dots_of l.out)
