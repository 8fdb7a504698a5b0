use Rattle.std.proofs.Common.{ℕ, ◌-◌, ◌<◌, ◌≤◌, length, drop}
use Rattle.escp2_definitions.specs.Least.{equal_at}
use Rattle.escp2_rows.proofs.literals.few_triple.Given as goal

abbrev pub invariant-places : goal.invariant-places
invariant-places l = record {
  within : l.at ≤ length l.row;
  from : l.from ≤ l.at;
  few : (i : ℕ) → l.from ≤ i → i < l.at → equal_at (drop i l.row) ≤ 2;
}

abbrev pub decreases-places : goal.decreases-places
decreases-places l = length l.row - l.at
