use Rattle.std.proofs.Common.{rules}
use Rattle.tile_border.proofs.Zeros.{even_kept}
use Rattle.diffusion_tests.proofs.windows.edge_of.Goals as goal

pub put-requires : goal.put-requires
put-requires c = let fits = even_kept 128 c.args.error c.requires in search rules
