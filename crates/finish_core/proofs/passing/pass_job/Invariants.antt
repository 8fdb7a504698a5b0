use Rattle.std.proofs.Common.{◌≡◌, ◌-◌, ◌≤◌, []}
use Rattle.finish_core.proofs.Jobs.{PassesSoFar}
use Rattle.finish_core.specs.Passing.{most_job}
use Rattle.finish_core.specs.Sides.{IsLater, moment_of}
use Rattle.finish_core.proofs.passing.pass_job.Given as goal

abbrev pub invariant-reads : goal.invariant-reads
invariant-reads g l = record {
  so_far : PassesSoFar l.how.telling l.parts l.fed (g.S.Source.left l.fn.input) (g.S.Source.left l.input)
      (moment_of g.K.Sink.held g.K.Sink.faults g.E.Sink.held g.E.Sink.faults g.L.Shelf.faults l.fn.out l.fn.err l.fn.shelf)
      (moment_of g.K.Sink.held g.K.Sink.faults g.E.Sink.held g.E.Sink.faults g.L.Shelf.faults l.out l.err l.shelf);
  unread : l.unread ≡ [];
  later : IsLater
      (moment_of g.K.Sink.held g.K.Sink.faults g.E.Sink.held g.E.Sink.faults g.L.Shelf.faults l.fn.out l.fn.err l.fn.shelf)
      (moment_of g.K.Sink.held g.K.Sink.faults g.E.Sink.held g.E.Sink.faults g.L.Shelf.faults l.out l.err l.shelf);
  input_later : g.S.Source.faults l.fn.input ≤ g.S.Source.faults l.input;
  stay : g.L.Shelf.files l.shelf ≡ g.L.Shelf.files l.fn.shelf;
}

abbrev pub decreases-reads : goal.decreases-reads
decreases-reads g l = most_job - l.fed
