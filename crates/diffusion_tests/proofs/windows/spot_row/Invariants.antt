use Rattle.std.proofs.Common.{◌≡◌}
use Rattle.diffusion_tests.proofs.windows.spot_row.Given as goal

abbrev pub invariant-loop-x : goal.invariant-loop-x
invariant-loop-x l = record { width : l.planes.width ≡ l.initial.planes.width; inks : l.planes.inks ≡ l.initial.planes.inks }
