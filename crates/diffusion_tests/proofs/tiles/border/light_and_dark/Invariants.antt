use Rattle.std.proofs.Common.{◌≡◌}
use Rattle.diffusion_tests.proofs.tiles.border.light_and_dark.Given as goal

abbrev pub invariant-loop-y : goal.invariant-loop-y
invariant-loop-y l = record {
  width : l.rows.width ≡ 200;
  rows : l.rows.rows ≡ 70;
  inks : l.rows.inks ≡ 2;
}
