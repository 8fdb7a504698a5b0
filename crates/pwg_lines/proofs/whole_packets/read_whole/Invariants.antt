use Rattle.std.proofs.Common.{length, take, ◌*◌, ◌+◌, ◌-◌, ◌≡◌, ◌≤◌}
use Rattle.pwg_definitions.specs.Header.{row_of}
use Rattle.pwg_lines.specs.States.{Reads}
use Rattle.pwg_lines.proofs.whole_packets.read_whole.Given as goal

abbrev pub invariant-packets : goal.invariant-packets
invariant-packets l = record {
  used : l.at.used ≤ length l.piece;
  whole : l.at.filled + l.at.left * (row_of l.fn.kind).unit ≡ length l.line;
  some : 1 ≤ l.at.left;
  reads : Reads (row_of l.fn.kind).unit l.fn.left l.at.left (take l.fn.filled l.fn.line) (take l.at.filled l.line)
      (take l.at.used l.piece);
}

abbrev pub decreases-packets : goal.decreases-packets
decreases-packets l = length l.piece - l.at.used
