use Rattle.raw_rows.specs.Squares.{HasRows, IsSquare}
use Rattle.raw_rows.proofs.by_columns.square_of.Given as goal

abbrev pub invariant-loop-i : goal.invariant-loop-i
invariant-loop-i l = record {
  square : IsSquare l.square;
  rows : HasRows l.bytes l.starts l.first l.from l.i l.square;
}
