use Rattle.std.proofs.Common.{length, take, ◌*◌, ◌≡◌, ◌≤◌}
use Rattle.base_definitions.specs.Limits.{most_row_bytes}
use Rattle.escp2_rows.specs.Packets.{ReadsRows}
use Rattle.escp2_rows.proofs.whole_packets.read_whole.Given as goal

abbrev pub invariant-rows : goal.invariant-rows
invariant-rows l = record {
  used : l.at.used ≤ length l.piece;
  filled : l.at.filled ≤ l.last;
  few : l.at.rows_left ≤ l.fn.rows_left;
  short : l.at.row_left ≤ 255 * most_row_bytes;
  ended : l.at.row_left ≡ 0 → l.at.rows_left ≡ 0;
  none : l.at.used ≡ 0 → l.at.row_left ≡ l.fn.row_left;
  reads : ReadsRows l.row_bytes l.fn.row_left l.fn.rows_left l.at.row_left l.at.rows_left
      l.fn.filled l.at.filled (take l.at.used l.piece) l.fn.out l.out;
}

abbrev pub decreases-rows : goal.decreases-rows
decreases-rows l = l.at.rows_left
