use Rattle.std.proofs.lemmas.Grind.{common_steps}
use Rattle.std.proofs.Common.{arith}
use Rattle.raw_rows.proofs.Columns.{rows_more}
use Rattle.raw_rows.proofs.Squares.{square_more}
use Rattle.raw_rows.proofs.by_columns.square_of.Goals as goal

pub loop-i-preserved : goal.loop-i-preserved
loop-i-preserved c = grind (arith, common_steps, rows_more, square_more)
