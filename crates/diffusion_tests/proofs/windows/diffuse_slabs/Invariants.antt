use Rattle.std.proofs.Common.{◌≡◌}
use Rattle.tile_border.specs.Tops.{IsTopOf}
use Rattle.diffusion_tests.proofs.windows.diffuse_slabs.Given as goal

abbrev pub invariant-slabs : goal.invariant-slabs
invariant-slabs g l = record {
  width : l.planes.width ≡ l.fn.planes.width;
  inks : l.planes.inks ≡ l.fn.planes.inks;
  top : IsTopOf l.planes.width l.planes.inks l.top;
}
