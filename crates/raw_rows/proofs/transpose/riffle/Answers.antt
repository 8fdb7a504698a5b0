use Rattle.std.proofs.lemmas.Grind.{common_steps}
use Rattle.std.proofs.Common.{arith}
use Rattle.raw_rows.proofs.Squares.{riffle_more, square_more}
use Rattle.raw_rows.proofs.transpose.riffle.Goals as goal

pub loop-i-preserved : goal.loop-i-preserved
loop-i-preserved c = grind (arith, common_steps, riffle_more, square_more)

pub returns-clause-lanes : goal.returns-clause-lanes
returns-clause-lanes c = λ i m row column. c.loop-i.invariant.lanes i m (omega arith) column
