use Rattle.std.proofs.Common.{Some}
use Rattle.page_halftoner.specs.Screenings.{screening_of}
use Rattle.driver_core.proofs.Trying.Steps.{TriedSoFar}
use Rattle.driver_core.proofs.trial.pages.try_stream.Given as goal

abbrev pub invariant-pages : goal.invariant-pages
invariant-pages g l = record {
  tried : TriedSoFar l.fn.how.way l.fn.how.profile (screening_of l.fn.how.kernel l.fn.how.grain) (Some l.fn.maker) (Some l.maker) l.reader l.number
      l.written l.counter;
}
