use Rattle.std.proofs.Common.{◌≡◌}
use Rattle.diffusion_tests.proofs.fills.set_row.Given as goal

abbrev pub invariant-loop-x : goal.invariant-loop-x
invariant-loop-x l = record {
  width : l.rows.width ≡ l.initial.rows.width;
  rows : l.rows.rows ≡ l.initial.rows.rows;
  inks : l.rows.inks ≡ l.initial.rows.inks;
}
