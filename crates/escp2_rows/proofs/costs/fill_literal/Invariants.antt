use Rattle.std.proofs.Common.{◌≡◌, ◌+◌, ◌-◌, ◌<◌, ◌≤◌, drop}
use Rattle.escp2_definitions.specs.Least.{equal_at}
use Rattle.escp2_rows.specs.Ends.{IsFilled}
use Rattle.escp2_laws.proofs.Fewest.{fewest}
use Rattle.escp2_rows.proofs.costs.fill_literal.Given as goal

abbrev pub invariant-places : goal.invariant-places
invariant-places l = record {
  filled : IsFilled l.row l.table (record { at = l.at; equal = equal_at (drop l.at l.row); end = l.filled.end });
  behind : l.at + 2 ≤ l.filled.end;
  cost : l.cost ≡ fewest (drop l.filled.end l.row) + (l.filled.end - l.at) + 1;
  on : l.at ≤ l.filled.at;
  few : l.at < l.filled.at → equal_at (drop l.at l.row) ≤ 2;
}

abbrev pub decreases-places : goal.decreases-places
decreases-places l = l.at
