use Rattle.std.proofs.Common.{arith}
use Rattle.dead_nozzles.proofs.Strokes.{in-low}
use Rattle.dead_nozzles.proofs.plan.StrokePlan.row.Goals as goal

pub row_under-requires-clause-start : goal.row_under-requires-clause-start
row_under-requires-clause-start c = grind (arith, in-low)
