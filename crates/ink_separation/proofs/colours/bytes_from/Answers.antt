use Rattle.std.proofs.lemmas.Grind.{common_steps}
use Rattle.std.proofs.Common.{arith, length-set}
use Rattle.ink_separation.proofs.Filled.{filled_more}
use Rattle.ink_separation.proofs.colours.bytes_from.Goals as goal

pub loop-k-preserved : goal.loop-k-preserved
loop-k-preserved c = grind (arith, common_steps, filled_more, length-set)
