use Rattle.std.proofs.Common.{◌≡◌, ℕ, ◌-◌, ◌≤◌, List, ◌++◌, length, take}
use Rattle.finish_core.specs.Passing.{GoesOn, Reads}
use Rattle.finish_core.specs.Sides.{IsLater, moment_of}
use Rattle.finish_core.proofs.passing.pass_events.Given as goal

abbrev pub invariant-events : goal.invariant-events
invariant-events g l = record {
  within : l.at ≤ length l.piece;
  reads : (sofar : List ℕ) → Reads l.fn.parts sofar → Reads l.parts (sofar ++ take l.at l.piece);
  goes : (sofar : List ℕ) → Reads l.fn.parts sofar → GoesOn l.how.telling
      (moment_of g.K.Sink.held g.K.Sink.faults g.E.Sink.held g.E.Sink.faults g.L.Shelf.faults l.fn.out l.fn.err l.fn.shelf)
      (moment_of g.K.Sink.held g.K.Sink.faults g.E.Sink.held g.E.Sink.faults g.L.Shelf.faults l.out l.err l.shelf)
      sofar (sofar ++ take l.at l.piece);
  later : IsLater
      (moment_of g.K.Sink.held g.K.Sink.faults g.E.Sink.held g.E.Sink.faults g.L.Shelf.faults l.fn.out l.fn.err l.fn.shelf)
      (moment_of g.K.Sink.held g.K.Sink.faults g.E.Sink.held g.E.Sink.faults g.L.Shelf.faults l.out l.err l.shelf);
  stay : g.L.Shelf.files l.shelf ≡ g.L.Shelf.files l.fn.shelf;
}

abbrev pub decreases-events : goal.decreases-events
decreases-events g l = length l.piece - l.at
