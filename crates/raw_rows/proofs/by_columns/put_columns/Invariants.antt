use Rattle.std.proofs.Common.{◌*◌}
use Rattle.raw_rows.specs.Squares.{HasColumns}
use Rattle.raw_rows.proofs.by_columns.put_columns.Given as goal

abbrev pub invariant-loop-n : goal.invariant-loop-n
invariant-loop-n l = HasColumns l.bytes l.starts (16 * l.n) l.columns
