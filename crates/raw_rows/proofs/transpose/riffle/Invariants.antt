use Rattle.std.proofs.Common.{ℕ, ◌≡◌, ◌+◌, ◌*◌, ◌/◌, ◌%◌, ◌<◌}
use Rattle.raw_rows.specs.Squares.{IsSquare, lane}
use Rattle.raw_rows.proofs.transpose.riffle.Given as goal

abbrev pub invariant-loop-i : goal.invariant-loop-i
invariant-loop-i l = record {
  square : IsSquare l.y;
  lanes : (i m : ℕ) → i < 2 * l.i → m < 16 → lane l.y i m ≡ lane l.x (i / 2 + 8 * (m % 2)) (8 * (i % 2) + m / 2);
}
