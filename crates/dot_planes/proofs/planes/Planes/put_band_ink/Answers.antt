use Rattle.std.proofs.Common.{arith}
use Rattle.dot_planes.proofs.PutBands.{band_rows_more}
use Rattle.dot_planes.proofs.planes.Planes.put_band_ink.Goals as goal

pub loop-r-preserved : goal.loop-r-preserved
loop-r-preserved c = grind (arith, band_rows_more)
