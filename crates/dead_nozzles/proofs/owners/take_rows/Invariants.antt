use Rattle.std.proofs.Common.{◌-◌}
use Rattle.dead_nozzles.proofs.Taking.{TakenSoFar}
use Rattle.dead_nozzles.proofs.owners.take_rows.Given as goal

abbrev pub invariant-nozzles : goal.invariant-nozzles
invariant-nozzles l = TakenSoFar l.head l.start l.fn.owners l.owners l.nozzle (l.head.nozzles - l.nozzle)
