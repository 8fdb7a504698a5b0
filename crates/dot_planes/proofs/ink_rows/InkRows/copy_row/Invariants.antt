use Rattle.dot_planes.proofs.PutAmounts.{HasCopies}
use Rattle.dot_planes.proofs.ink_rows.InkRows.copy_row.Given as goal

abbrev pub invariant-loop-ink : goal.invariant-loop-ink
invariant-loop-ink l = HasCopies l.fn.self l.self l.ink l.from l.y
