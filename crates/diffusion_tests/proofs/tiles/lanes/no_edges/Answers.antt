use Rattle.std.proofs.Common.{pos}
use Rattle.tile_border.proofs.Zeros.{even_fits, zero_fits}
use Rattle.diffusion_tests.proofs.tiles.lanes.no_edges.Goals as goal

pub returns-clause-side : goal.returns-clause-side
returns-clause-side c = even_fits 192 (pos 0) zero_fits

pub returns-clause-bottom : goal.returns-clause-bottom
returns-clause-bottom c = even_fits 128 (pos 0) zero_fits
