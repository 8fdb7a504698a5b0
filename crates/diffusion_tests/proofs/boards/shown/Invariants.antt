use Rattle.std.proofs.Common.{◌≡◌}
use Rattle.diffusion_tests.proofs.boards.shown.Given as goal

abbrev pub invariant-loop-tile : goal.invariant-loop-tile
invariant-loop-tile l = record { width : l.planes.width ≡ 200; rows : l.planes.rows ≡ 70; inks : l.planes.inks ≡ 1 }
