use Rattle.raw_rows.proofs.Columns.{columns_more}
use Rattle.raw_rows.proofs.by_columns.put_columns.Goals as goal

pub loop-n-preserved : goal.loop-n-preserved
loop-n-preserved c = columns_more _ c.put_half.ensures c.put_half-in-loop-n.ensures c.loop-n.invariant
