use Rattle.std.proofs.Common.{arith}
use Rattle.dot_planes.proofs.PutBands.{clears_more}
use Rattle.dot_planes.proofs.planes.Planes.clear_rows.Goals as goal

pub loop-r-preserved : goal.loop-r-preserved
loop-r-preserved c = grind (arith, clears_more)
