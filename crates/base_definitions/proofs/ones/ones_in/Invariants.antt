use Rattle.std.proofs.Common.{◌≡◌, ◌*◌, ◌≤◌, take, count_ones}
use Rattle.std.specs.List.{sum_by}
use Rattle.base_definitions.proofs.ones.ones_in.Given as goal

abbrev pub invariant-loop-byte : goal.invariant-loop-byte
invariant-loop-byte l = record {
  so_far : l.ones ≡ sum_by count_ones (take l.byte-index l.bytes);
  most : l.ones ≤ 8 * l.byte-index;
}
