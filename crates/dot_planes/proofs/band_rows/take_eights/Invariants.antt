use Rattle.std.proofs.Common.{◌≡◌, ℕ, ◌*◌, ◌+◌, ◌<◌}
use Rattle.dot_planes.specs.Tables.{row_dot}
use Rattle.dot_planes.proofs.band_rows.take_eights.Given as goal

abbrev pub invariant-loop-b : goal.invariant-loop-b
invariant-loop-b l = record { dots : (x : ℕ) → x < 8 * l.b → row_dot l.row x ≡ row_dot l.from (x + l.shift) }
