use Rattle.std.proofs.Common.{◌≡◌, ℕ, ◌*◌, ◌<◌, false}
use Rattle.dot_planes.specs.Tables.{row_dot}
use Rattle.dot_planes.proofs.bit_rows.has_dot.Given as goal

abbrev pub invariant-loop-i : goal.invariant-loop-i
invariant-loop-i l = record {
  none : (k : ℕ) → k < 8 * l.i → k < l.dots → row_dot l.row k ≡ false;
}
