use Rattle.std.proofs.Common.{◌-◌, ◌<◌, ◌≤◌, length, drop}
use Rattle.escp2_definitions.specs.Least.{equal_at}
use Rattle.escp2_rows.specs.Passing.{GoesOn}
use Rattle.escp2_rows.proofs.literals.end_from.Given as goal

abbrev pub invariant-runs : goal.invariant-runs
invariant-runs l = record {
  goes : l.three ≤ 128 → GoesOn l.row l.three;
  found : l.three ≤ 128 → l.three < length l.row → 3 ≤ equal_at (drop l.three l.row);
}

abbrev pub decreases-runs : goal.decreases-runs
decreases-runs l = length l.row - l.three
