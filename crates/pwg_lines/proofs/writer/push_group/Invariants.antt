use Rattle.std.proofs.Common.{◌*◌, ◌+◌, ◌≤◌, length, vec_capacity, vec_len}
use Rattle.pwg_lines.proofs.Writing.{GroupSoFar}
use Rattle.pwg_lines.proofs.writer.push_group.Given as goal

abbrev pub invariant-packets : goal.invariant-packets
invariant-packets l = record {
  group : GroupSoFar l.unit l.more l.line l.fn.out.items l.out.items l.rest;
  capacity : vec_capacity l.fn.out ≤ vec_capacity l.out;
  short : vec_len l.out + 2 * length l.rest ≤ vec_len l.fn.out + 1 + 2 * length l.line;
}

abbrev pub decreases-packets : goal.decreases-packets
decreases-packets l = length l.rest
