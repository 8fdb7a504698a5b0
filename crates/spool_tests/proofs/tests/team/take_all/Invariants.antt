use Rattle.std.proofs.Common.{◌≡◌, length, vec_capacity}
use Rattle.spool_queue.specs.Passes.{taken_of, senders_of, IsPrinterOf}
use Rattle.spool_tests.proofs.tests.team.take_all.Given as goal

abbrev pub invariant-loop : goal.invariant-loop
invariant-loop g l = record {
  pass : IsPrinterOf l.spool l.printer;
  senders : senders_of l.printer ≡ senders_of l.fn.printer;
  jobs : l.jobs.items ≡ taken_of l.printer;
  count : length (taken_of l.printer) ≡ l.counter;
  room : vec_capacity l.jobs ≡ vec_capacity l.fn.jobs;
}
