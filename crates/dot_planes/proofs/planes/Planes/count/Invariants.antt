use Rattle.std.proofs.Common.{◌≡◌, ◌*◌, ◌≤◌, sum_by, count_by}
use Rattle.base_definitions.specs.Counting.{count_from}
use Rattle.base_definitions.specs.Limits.{most_row_bytes}
use Rattle.dot_planes.specs.Tables.{dot}
use Rattle.dot_planes.proofs.planes.Planes.count.Given as goal

abbrev pub invariant-loop-y : goal.invariant-loop-y
invariant-loop-y l = record {
  so_far : l.dots ≡ sum_by (λ y. count_by (λ x. dot l.self l.ink y x) (count_from 0 l.self.width)) (count_from 0 l.y);
  most : l.dots ≤ 8 * most_row_bytes * l.y;
}
