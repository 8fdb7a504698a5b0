use Rattle.dot_planes.specs.Tables.{HasSizeOf}
use Rattle.tile_border.specs.Tops.{IsTopOf}
use Rattle.diffusion_tests.proofs.windows.diffuse_waiting.Given as goal

abbrev pub invariant-slabs : goal.invariant-slabs
invariant-slabs g l = record {
  size : HasSizeOf l.fn.dots.planes l.dots.planes;
  top : IsTopOf l.dots.planes.width l.dots.planes.inks l.top;
}
