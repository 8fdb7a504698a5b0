use Rattle.std.proofs.Common.{◌≡◌, length}
use Rattle.raw_rows.specs.Squares.{IsPutInto}
use Rattle.raw_rows.proofs.by_columns.put_square.Given as goal

abbrev pub invariant-loop-i : goal.invariant-loop-i
invariant-loop-i l = record {
  long : length l.columns ≡ 8192;
  put : IsPutInto l.square l.first l.from l.i l.initial.columns l.columns;
}
