use Rattle.std.proofs.Common.{◌≡◌}
use Rattle.diffusion_tests.proofs.fills.amounts.Given as goal

abbrev pub invariant-loop-i : goal.invariant-loop-i
invariant-loop-i l = record { width : l.rows.width ≡ l.width; rows : l.rows.rows ≡ l.height; inks : l.rows.inks ≡ l.inks }

abbrev pub invariant-loop-y : goal.invariant-loop-y
invariant-loop-y l = record { width : l.rows.width ≡ l.width; rows : l.rows.rows ≡ l.height; inks : l.rows.inks ≡ l.inks }
