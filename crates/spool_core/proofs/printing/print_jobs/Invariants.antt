use Rattle.std.proofs.Common.{◌≡◌, ◌≢◌, ◌≤◌, All, length, map, vec_capacity}
use Rattle.page_halftoner.specs.Screenings.{screening_of}
use Rattle.spool_queue.specs.Passes.{IsPrinterOf, senders_of, taken_of}
use Rattle.spool_core.specs.Printed.{AreDone, between}
use Rattle.spool_core.proofs.printing.print_jobs.Given as goal

abbrev pub invariant-loop : goal.invariant-loop
invariant-loop g l = record {
  pass : IsPrinterOf l.spool l.printer;
  senders : senders_of l.printer ≡ senders_of l.fn.printer;
  prints : AreDone l.fn.how.profile (screening_of l.fn.how.kernel l.fn.how.grain) (taken_of l.printer) l.done.items
      (between (g.K.Sink.held l.fn.out) (g.K.Sink.faults l.fn.out) (map (λ m. (goal.Meter-dyn g (m.vtable, m.value)).account m.value) l.fn.meters.items))
      (between (g.K.Sink.held l.out) (g.K.Sink.faults l.out) (map (λ m. (goal.Meter-dyn g (m.vtable, m.value)).account m.value) l.meters.items));
  count_is : length (taken_of l.printer) ≡ l.counter;
  done_count : length l.done.items ≡ l.counter;
  room : vec_capacity l.done ≡ vec_capacity l.fn.done;
  fine : All (λ ran. ran.status ≢ 5) l.done.items;
  later : g.K.Sink.faults l.fn.out ≤ g.K.Sink.faults l.out;
}
