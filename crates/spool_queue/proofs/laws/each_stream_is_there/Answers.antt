use Rattle.spool_queue.proofs.Sent.{is_there}
use Rattle.spool_queue.proofs.laws.each_stream_is_there.Goals as goal

pub returns : goal.returns
returns c = is_there
