use Rattle.std.proofs.Common.{◌≡◌, ◌*◌, ◌≤◌, take, count_ones}
use Rattle.std.specs.List.{sum_by}
use Rattle.dot_planes.proofs.counts.count_words.Given as goal

abbrev pub invariant-words : goal.invariant-words
invariant-words l = record {
  so_far : l.dots ≡ sum_by count_ones (take (8 * l.i) l.bytes);
  most : l.dots ≤ 64 * l.i;
}
