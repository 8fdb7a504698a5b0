use Rattle.std.proofs.Common.{◌≡◌, ◌*◌, ◌≤◌, take, count_ones}
use Rattle.std.specs.List.{sum_by}
use Rattle.job_lister.proofs.counting.count_words.Given as goal

abbrev pub invariant-loop-i : goal.invariant-loop-i
invariant-loop-i l = record {
  so_far : l.dots ≡ sum_by count_ones (take (8 * l.i) l.block);
  most : l.dots ≤ 64 * l.i;
}
