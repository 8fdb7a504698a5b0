use Rattle.spool_queue.proofs.Sent.{was_sent}
use Rattle.spool_queue.proofs.laws.each_job_was_sent.Goals as goal

pub returns : goal.returns
returns c = was_sent
