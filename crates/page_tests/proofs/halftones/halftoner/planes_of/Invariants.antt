use Rattle.std.proofs.Common.{◌≡◌, ◌-◌, ◌≤◌, false}
use Rattle.page_tests.proofs.halftones.halftoner.planes_of.Given as goal

abbrev pub invariant-loop-y : goal.invariant-loop-y
invariant-loop-y g l = record {
  form : l.h.form ≡ l.f;
  count : l.h.count ≡ l.y;
  most : l.y ≤ l.f.height;
  working : l.h.failed ≡ false;
}

abbrev pub decreases-loop-y : goal.decreases-loop-y
decreases-loop-y g l = l.f.height - l.y
