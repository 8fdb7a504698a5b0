use Rattle.std.proofs.Common.{◌≡◌, ◌+◌, ◌-◌, ◌≤◌, ◌++◌, List, ℕ, false, replicate}
use Rattle.page_halftoner.specs.Halftones.{IsSamePage, StandsFor}
use Rattle.page_halftoner.proofs.halftoner.Halftoner.lines.Given as goal

abbrev pub invariant-loop-left : goal.invariant-loop-left
invariant-loop-left g l = record {
  page : IsSamePage l.fn.self l.self;
  few : l.left ≤ l.repeats;
  count : l.self.count + l.left ≡ l.fn.self.count + l.repeats;
  working : l.self.failed ≡ false;
  stands : (lines : List (List ℕ)) → StandsFor l.fn.self lines → StandsFor l.self (lines ++ replicate (l.repeats - l.left) l.line);
}

abbrev pub decreases-loop-left : goal.decreases-loop-left
decreases-loop-left g l = l.left
