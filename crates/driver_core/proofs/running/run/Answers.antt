use Rattle.driver_core.proofs.Runs.AllPromised.{all_promises}
use Rattle.driver_core.proofs.running.run.Goals as goal

pub returns-clause-promises : goal.returns-clause-promises
returns-clause-promises g c =
    all_promises c.args.words.now _ _ _ c.answer_to-answer.result _
    c.work.ensures.outcome c.answer_to-answer.ensures c.tell.ensures c.status.ensures
