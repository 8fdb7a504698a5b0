use Rattle.std.proofs.Common.{◌≡◌, ◌⊎◌, ◌+◌, ◌≤◌, Some, None}
use Rattle.page_halftoner.specs.Halftones.{Diffusing, IsFull, IsSameRows}
use Rattle.pwg_stream.specs.Reading.{current_form, lines_left_of, stop_of}
use Rattle.halftone_reader.specs.SoFar.{Begun, HalftonedSoFar}
use Rattle.halftone_reader.proofs.slabs.fill.Given as goal

abbrev pub invariant-groups : goal.invariant-groups
invariant-groups g l = record {
  same : IsSameRows l.fn.filler l.filler;
  form : current_form l.reader ≡ Some l.filler.form;
  going : stop_of l.reader ≡ None;
  given : l.filler.count + lines_left_of l.reader ≤ l.filler.form.height;
  placed : IsFull l.filler ⊎ (l.filler.count + lines_left_of l.reader ≡ l.filler.form.height);
  later : g.S.Source.faults l.fn.source ≤ g.S.Source.faults l.source;
  more : (b : Begun) (d : Diffusing)
      → HalftonedSoFar b l.fn.reader (g.S.Source.left l.fn.source) l.fn.filler d
      → HalftonedSoFar b l.reader (g.S.Source.left l.source) l.filler d;
}

abbrev pub decreases-groups : goal.decreases-groups
decreases-groups g l = lines_left_of l.reader
