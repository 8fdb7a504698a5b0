use Rattle.std.proofs.Common.{arith}
use Rattle.dot_planes.proofs.PackedRows.{counted-len, packed-len, row_count, sum_counted}
use Rattle.dot_planes.proofs.planes.Planes.count.Goals as goal

pub count_row-requires : goal.count_row-requires
count_row-requires c = grind (arith, counted-len, packed-len)

pub loop-y-preserved : goal.loop-y-preserved
loop-y-preserved c = grind (arith, row_count, sum_counted)
