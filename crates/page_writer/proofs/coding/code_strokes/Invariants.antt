use Rattle.std.proofs.Common.{◌≤◌, length}
use Rattle.base_definitions.specs.Limits.{most_row_bytes}
use Rattle.page_writer.specs.Pieces.{AllRoomy, AreCoded}
use Rattle.page_writer.proofs.coding.code_strokes.Given as goal

abbrev pub invariant-strokes : goal.invariant-strokes
invariant-strokes g l = record {
  coded : AreCoded (g.S.Strokes.page l.page) l.first l.stroke l.strokes;
  room : AllRoomy (g.S.Strokes.page l.page) l.strokes;
  row : most_row_bytes ≤ length l.row;
}
