use Rattle.std.proofs.Common.{◌≡◌}
use Rattle.page_tests.proofs.pages.planes_of.Given as goal

abbrev pub invariant-columns : goal.invariant-columns
invariant-columns l = record { width : l.planes.width ≡ l.width; rows : l.planes.rows ≡ l.rows; inks : l.planes.inks ≡ 1 }

abbrev pub invariant-rows : goal.invariant-rows
invariant-rows l = record { width : l.planes.width ≡ l.width; rows : l.planes.rows ≡ l.rows; inks : l.planes.inks ≡ 1 }
