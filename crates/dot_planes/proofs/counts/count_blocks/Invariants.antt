use Rattle.std.proofs.Common.{◌≡◌, ◌*◌, ◌≤◌, take, count_ones}
use Rattle.std.specs.List.{sum_by}
use Rattle.dot_planes.proofs.counts.count_blocks.Given as goal

abbrev pub invariant-parts : goal.invariant-parts
invariant-parts l = record {
  so_far : l.dots ≡ sum_by count_ones (take (64 * l.i) l.bytes);
  most : l.dots ≤ 512 * l.i;
}
