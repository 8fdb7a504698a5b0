use Rattle.escp2_rows.specs.Ends.{IsFilled}
use Rattle.escp2_rows.proofs.costs.fill_costs.Given as goal

abbrev pub invariant-bytes : goal.invariant-bytes
invariant-bytes l = IsFilled l.row l.table l.filled

abbrev pub decreases-bytes : goal.decreases-bytes
decreases-bytes l = l.filled.at
