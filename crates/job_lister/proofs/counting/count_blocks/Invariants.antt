use Rattle.std.proofs.Common.{◌≡◌, ◌*◌, ◌≤◌, take, count_ones}
use Rattle.std.specs.List.{sum_by}
use Rattle.job_lister.proofs.counting.count_blocks.Given as goal

abbrev pub invariant-loop-i : goal.invariant-loop-i
invariant-loop-i l = record {
  so_far : l.dots ≡ sum_by count_ones (take (64 * l.i) l.bytes);
  most : l.dots ≤ 512 * l.i;
}
