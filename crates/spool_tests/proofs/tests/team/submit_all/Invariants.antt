use Rattle.std.proofs.Common.{◌≡◌, ◌++◌}
use Rattle.spool_queue.specs.Passes.{sent_of, sender_of, IsSenderOf}
use Rattle.spool_tests.proofs.tests.team.submit_all.Given as goal

abbrev pub invariant-loop-stream : goal.invariant-loop-stream
invariant-loop-stream g l = record {
  pass : IsSenderOf l.spool l.pass;
  sender : sender_of l.pass ≡ sender_of l.fn.work.pass;
  sent : sent_of l.pass ++ l.stream-iterator.rest.items ≡ l.fn.work.streams.items;
}
