use Rattle.std.proofs.Common.{◌≡◌, ◌++◌, vec_capacity}
use Rattle.crossbeam_queue.specs.Passes.{view, IsPassOf}
use Rattle.spool_queue.specs.Rule.{printer_view}
use Rattle.spool_queue.proofs.ends.drain.Given as goal

abbrev pub invariant-loop : goal.invariant-loop
invariant-loop g l = record {
  pass : IsPassOf l.queue l.pass;
  role : view l.pass ≡ printer_view (view l.fn.pass).senders ((view l.fn.pass).taken ++ l.rest.items) (view l.fn.pass).ended;
  room : vec_capacity l.rest ≡ vec_capacity l.fn.rest;
}
