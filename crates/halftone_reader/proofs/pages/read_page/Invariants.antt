use Rattle.std.proofs.Common.{◌≡◌, ◌⊎◌, ◌-◌, ◌≤◌, IfSome}
use Rattle.page_halftoner.specs.Halftones.{HasRoom, IsFull, IsSpare, window_filled}
use Rattle.halftone_reader.specs.SoFar.{HalftonedSoFar, begun}
use Rattle.wavefront_team.specs.SoFar.{dots_in}
use Rattle.halftone_reader.proofs.pages.read_page.Given as goal

abbrev pub invariant-slabs : goal.invariant-slabs
invariant-slabs g l = record {
  page : HalftonedSoFar (begun l.fn.profile l.fn.kernel l.fn.grain l.form l.fn.reader (g.S.Source.left l.fn.source))
      l.reader (g.S.Source.left l.source) l.filler l.diffuser;
  done : IsFull l.filler ⊎ (l.filler.count ≡ l.filler.form.height);
  room : HasRoom l.form l.fn.profile (dots_in l.diffuser.dots);
  spare : IfSome l.spare (IsSpare l.filler);
  later : g.S.Source.faults l.fn.source ≤ g.S.Source.faults l.source;
}

abbrev pub decreases-slabs : goal.decreases-slabs
decreases-slabs g l = (window_filled l.filler).height - l.filler.first
