use Rattle.std.proofs.Common.{◌*◌}
use Rattle.dot_planes.specs.Tiles.{PutsDots}
use Rattle.dot_planes.proofs.tile_rows.put_cut.Given as goal

abbrev pub invariant-loop-b : goal.invariant-loop-b
invariant-loop-b l = record {
  dots : PutsDots l.width l.c l.r (8 * l.b) l.dots l.initial.row l.row;
}
