use Rattle.std.proofs.Common.{length, take, ℕ, ◌+◌, ◌-◌, ◌≡◌, ◌≤◌}
use Rattle.escp2_rows.specs.Packets.{ReadsRows}
use Rattle.escp2_rows.proofs.whole_packets.read_row.Given as goal

abbrev pub invariant-packets : goal.invariant-packets
invariant-packets l = record {
  used : l.at.used ≤ length l.piece;
  least : l.fn.filled ≤ l.at.filled;
  most : l.at.filled ≤ l.end;
  none : l.at.used ≡ 0 → l.at.filled ≡ l.fn.filled;
  reads : (width left m : ℕ) → l.fn.end ≤ l.fn.filled + left → ReadsRows width left m
      (l.fn.filled + left - l.at.filled) m l.fn.filled l.at.filled (take l.at.used l.piece) l.fn.out l.out;
}

abbrev pub decreases-packets : goal.decreases-packets
decreases-packets l = l.last - l.at.used
