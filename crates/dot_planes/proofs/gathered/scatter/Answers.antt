use Rattle.std.proofs.Common.{arith}
use Rattle.dot_planes.proofs.GatheredRows.{offset_more}
use Rattle.dot_planes.proofs.gathered.scatter.Goals as goal

pub loop-o-preserved : goal.loop-o-preserved
loop-o-preserved c = grind (arith, offset_more)
