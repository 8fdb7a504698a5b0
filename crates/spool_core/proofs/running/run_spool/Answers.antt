use Rattle.spool_core.proofs.Valid.{promised}
use Rattle.spool_core.proofs.running.run_spool.Goals as goal

pub returns-clause-promises : goal.returns-clause-promises
returns-clause-promises g c =
    promised c.work-answer.result.answer c.work-answer.ensures.outcome c.status.ensures
    (rw c.deref.ensures.value at c.tell.ensures)
