use Rattle.dead_nozzles.proofs.Scanning.{Scan}
use Rattle.dead_nozzles.proofs.finding.find_starts.Given as goal

abbrev pub invariant-starts : goal.invariant-starts
invariant-starts l = Scan l.head l.maker l.start l.owners l.starts.items
