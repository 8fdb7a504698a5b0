use Rattle.std.proofs.Common.{◌≡◌, ◌≢◌, ℕ, ◌*◌, ◌+◌, ◌<◌, ◌&&◌, false}
use Rattle.dot_planes.specs.Tables.{row_dot}
use Rattle.dot_planes.proofs.LaidRows.{Both}
use Rattle.dot_planes.proofs.bit_rows.bytes_meet.Given as goal

abbrev pub invariant-loop-i : goal.invariant-loop-i
invariant-loop-i l = record {
  some : l.both ≢ 0 → Both l.row l.other (8 * l.many) l.x;
  none : l.both ≡ 0 → (k : ℕ) → k < 8 * l.i → (row_dot l.row k && row_dot l.other (l.x + k)) ≡ false;
}
