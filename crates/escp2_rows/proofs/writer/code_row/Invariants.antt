use Rattle.std.proofs.Common.{length, drop, ◌-◌, ◌≤◌}
use Rattle.escp2_rows.proofs.Writing.{RowSoFar}
use Rattle.escp2_rows.proofs.writer.code_row.Given as goal

abbrev pub invariant-packets : goal.invariant-packets
invariant-packets l = record {
  within : l.at ≤ length l.row;
  so_far : RowSoFar l.row l.out l.len (drop l.at l.row);
}

abbrev pub decreases-packets : goal.decreases-packets
decreases-packets l = length l.row - l.at
