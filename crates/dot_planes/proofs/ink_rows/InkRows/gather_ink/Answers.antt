use Rattle.std.proofs.Common.{arith}
use Rattle.dot_planes.proofs.GatheredRows.{no_rows, row_more}
use Rattle.dot_planes.proofs.ink_rows.InkRows.gather_ink.Goals as goal

pub loop-r-init : goal.loop-r-init
loop-r-init c = no_rows _ _ _ _

pub loop-r-preserved : goal.loop-r-preserved
loop-r-preserved c = row_more _ _ _ _ _ _ (omega arith) c.loop-r.invariant c.gather_row.ensures
