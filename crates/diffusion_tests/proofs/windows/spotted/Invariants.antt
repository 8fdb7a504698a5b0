use Rattle.std.proofs.Common.{◌≡◌}
use Rattle.diffusion_tests.proofs.windows.spotted.Given as goal

abbrev pub invariant-loop-i : goal.invariant-loop-i
invariant-loop-i l = record { width : l.planes.width ≡ l.width; inks : l.planes.inks ≡ l.inks }

abbrev pub invariant-loop-y : goal.invariant-loop-y
invariant-loop-y l = record { width : l.planes.width ≡ l.width; inks : l.planes.inks ≡ l.inks }
