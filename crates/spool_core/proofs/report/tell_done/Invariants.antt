use Rattle.std.proofs.Common.{◌≤◌, take}
use Rattle.std.specs.Io.KnownBytes.{Appends}
use Rattle.spool_core.specs.Answers.{report_lines}
use Rattle.spool_core.proofs.report.tell_done.Given as goal

abbrev pub invariant-loop-ran : goal.invariant-loop-ran
invariant-loop-ran g l = record {
  so_far : Appends (g.E.Sink.held l.fn.err) (g.E.Sink.held l.err) (report_lines (take l.ran-index l.done));
  later : g.E.Sink.faults l.fn.err ≤ g.E.Sink.faults l.err;
}
