use Rattle.std.proofs.Common.{◌≡◌, ◌+◌, ◌≤◌}
use Rattle.page_halftoner.specs.Screenings.{screening_of}
use Rattle.driver_core.specs.Outside.{meters_of}
use Rattle.driver_core.proofs.Printing.StreamSteps.{MeteredSoFar}
use Rattle.driver_core.proofs.print.pages.print_pages.Given as goal

abbrev pub invariant-pages : goal.invariant-pages
invariant-pages g l = record {
  stream : MeteredSoFar l.fn.how.way l.fn.how.profile (screening_of l.fn.how.kernel l.fn.how.grain)
      (g.S.Source.left l.fn.input) (g.S.Source.left l.input) (g.K.Sink.held l.fn.out) (g.K.Sink.held l.out)
      (meters_of (λ m. (goal.Meter-dyn g (m.vtable, m.value)).account m.value) l.fn.meters.items l.meters.items)
      l.reader l.number;
  whole : l.pages + 1 ≡ l.number;
  read_later : g.S.Source.faults l.fn.input ≤ g.S.Source.faults l.input;
  written_later : g.K.Sink.faults l.fn.out ≤ g.K.Sink.faults l.out;
}
