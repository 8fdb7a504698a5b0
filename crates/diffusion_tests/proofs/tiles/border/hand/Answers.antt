use Rattle.std.proofs.Common.{rules}
use Rattle.tile_border.proofs.Zeros.{even_kept}
use Rattle.diffusion_tests.proofs.tiles.border.hand.Goals as goal

pub put-requires : goal.put-requires
put-requires c = let fits = even_kept 192 c.args.error c.requires.error in search rules

pub put-requires-2 : goal.put-requires-2
put-requires-2 c = let fits = even_kept 128 c.args.error c.requires.error in search rules
