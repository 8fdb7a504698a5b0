use Rattle.std.proofs.Common.{◌≡◌, ◌≤◌, pos, replicate, vec_capacity}
use Rattle.tile_border.proofs.edges.Edge.zero.Given as goal

abbrev pub invariant-loop : goal.invariant-loop
invariant-loop g l = record {
  items : l.zeros.items ≡ replicate l.counter (replicate g.row.N (pos 0));
  room : l.inks ≤ vec_capacity l.zeros;
}
