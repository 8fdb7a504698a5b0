-- The strokes of a head with dead nozzles as strokes over planes.
use Rattle.std.specs.Prelude.{length}
use Rattle.dead_nozzles.specs.Plans.{shot_row, stroke_in}
use Rattle.dead_nozzles.specs.Strokes.{Head, all_strokes, head_span}
use Rattle.page_writer.specs.Heads.{HeadStrokes}
use Rattle.page_writer.specs.Passes.{plane_row}

-- The strokes of a head with dead nozzles. A nozzle fires a row of each ink's plane, blank where the stroke has none
-- for the nozzle.
abbrev pub healed_strokes : Head → HeadStrokes
healed_strokes head = record {
  rows = head.height;
  nozzles = head.nozzles;
  above = head_span head;
  count = length (all_strokes head);
  start = λ stroke. (stroke_in (all_strokes head) stroke).start;
  row = λ t stroke place nozzle. plane_row t place (shot_row (stroke_in (all_strokes head) stroke).shots nozzle);
}
