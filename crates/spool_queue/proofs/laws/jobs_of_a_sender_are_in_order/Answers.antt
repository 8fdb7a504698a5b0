use Rattle.spool_queue.proofs.Sent.{in_order}
use Rattle.spool_queue.proofs.laws.jobs_of_a_sender_are_in_order.Goals as goal

pub returns : goal.returns
returns c = in_order
