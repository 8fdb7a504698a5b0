use Rattle.std.proofs.Common.{sym, ◌∙◌}
use Rattle.driver_core.proofs.Runs.Fitting.{none_dead, some_dead, way-healed, way-shingled, way-woven}
use Rattle.driver_core.proofs.fitting.job_way.Goals as goal

pub returns-then-job : goal.returns-then-job
returns-then-job c = sym (way-shingled c.args.job.now c.if-job.true)

pub returns-then-is_empty : goal.returns-then-is_empty
returns-then-is_empty c =
    sym (way-woven c.args.job.now c.if-job.false (none_dead c.args.job.now.dead.items c.is_empty.result c.is_empty.ensures c.if-is_empty.true))

pub returns-else-is_empty : goal.returns-else-is_empty
returns-else-is_empty c =
    (rw c.deref.ensures.0 at c.around.ensures)
    ∙ sym (way-healed c.args.job.now c.if-job.false (some_dead c.args.job.now.dead.items c.is_empty.result c.is_empty.ensures c.if-is_empty.false))
