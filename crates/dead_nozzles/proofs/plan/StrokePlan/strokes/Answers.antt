use Rattle.std.proofs.Common.{arith}
use Rattle.dead_nozzles.proofs.Strokes.{all-count}
use Rattle.dead_nozzles.proofs.plan.StrokePlan.strokes.Goals as goal

pub overflow_cast-result : goal.overflow_cast-result
overflow_cast-result c =
    omega (arith, c.len.ensures, c.self.inside.starts.ok, all-count c.self.inside.head c.self.inside.starts.items c.self.inside.owners.items c.self.invariant)
