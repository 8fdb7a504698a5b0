use Rattle.raw_rows.specs.Gathering.{HasParts}
use Rattle.raw_rows.proofs.kept.RawRows.put_bits.Given as goal

abbrev pub invariant-loop-r : goal.invariant-loop-r
invariant-loop-r l = HasParts l.self l.place 64 l.r l.rows
