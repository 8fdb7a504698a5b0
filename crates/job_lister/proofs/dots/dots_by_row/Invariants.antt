use Rattle.job_lister.proofs.RasterDots.{CountSoFar}
use Rattle.job_lister.proofs.dots.dots_by_row.Given as goal

abbrev pub invariant-loop-i : goal.invariant-loop-i
invariant-loop-i l = CountSoFar l.header l.rows l.i l.sum
