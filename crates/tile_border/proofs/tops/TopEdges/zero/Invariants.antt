use Rattle.std.proofs.Common.{◌≤◌, vec_capacity}
use Rattle.tile_border.specs.Tops.{IsZeroTop}
use Rattle.tile_border.proofs.tops.TopEdges.zero.Given as goal

abbrev pub invariant-loop : goal.invariant-loop
invariant-loop l = record {
  zeros : IsZeroTop l.counter l.inks l.edges.items;
  room : l.columns ≤ vec_capacity l.edges;
}
