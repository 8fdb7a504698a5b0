use Rattle.raw_rows.specs.Gathering.{AreWhiteRows}
use Rattle.raw_rows.proofs.kept.RawRows.is_white.Given as goal

abbrev pub invariant-loop-r : goal.invariant-loop-r
invariant-loop-r l = AreWhiteRows l.self l.place l.r
