use Rattle.dot_planes.proofs.GatheredRows.{Scatters}
use Rattle.dot_planes.proofs.gathered.scatter.Given as goal

abbrev pub invariant-loop-o : goal.invariant-loop-o
invariant-loop-o l = Scatters l.row l.fn.tile l.tile l.c l.r l.from l.o
