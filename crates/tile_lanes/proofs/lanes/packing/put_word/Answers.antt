use Rattle.std.proofs.Common.{arith}
use Rattle.tile_lanes.proofs.LaneBits.{word_is}
use Rattle.tile_lanes.proofs.lanes.packing.put_word.Goals as goal

pub returns-then-n-lt7-clause-there : goal.returns-then-n-lt7-clause-there
returns-then-n-lt7-clause-there c = grind (arith, word_is)
