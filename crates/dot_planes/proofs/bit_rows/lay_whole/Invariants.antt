use Rattle.std.proofs.Common.{◌≡◌, ℕ, ◌+◌, ◌/◌, ◌||◌, ◌&&◌}
use Rattle.dot_planes.specs.Laying.{is_in_bytes, laid_dot}
use Rattle.dot_planes.specs.Tables.{row_dot}
use Rattle.dot_planes.proofs.bit_rows.lay_whole.Given as goal

abbrev pub invariant-loop-i : goal.invariant-loop-i
invariant-loop-i l = record {
  so_far : (c : ℕ) → row_dot l.over c
      ≡ (row_dot l.fn.over c || is_in_bytes (l.x / 8 + 1) (l.x / 8 + 1 + l.i) c && laid_dot l.row l.dots l.x c);
}
