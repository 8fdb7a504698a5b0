use Rattle.spool_queue.proofs.Moves.{as_sent}
use Rattle.spool_queue.proofs.laws.jobs_are_as_sent_between_steps.Goals as goal

pub returns : goal.returns
returns c = as_sent
