-- The passes of the head as strokes over planes.
use Rattle.std.specs.Prelude.{ℕ, ◌-◌, ◌*◌, Bool, false, List, map, replicate, Option, Some, None}
use Rattle.dot_planes.specs.Tables.{DotTable, dot}
use Rattle.page_writer.specs.Heads.{HeadStrokes}
use Rattle.base_definitions.specs.Counting.{count_from}
use Rattle.weave_definitions.specs.Weave.{nozzle_row, pass_count}
use Rattle.weave_definitions.specs.Weaving.{Weaving}

-- the row of an ink, by its place in the set, that a nozzle fires: one of its plane; blank off the window
abbrev pub plane_row : DotTable → ℕ → Option ℕ → List Bool
plane_row t place (Some y) = map (dot t place y) (count_from 0 t.width)
plane_row t place None = replicate t.width false

-- The strokes of a plan are its passes. A nozzle fires a row of each ink's plane, blank off the window.
abbrev pub pass_strokes : Weaving → HeadStrokes
pass_strokes plan = record {
  rows = plan.height;
  nozzles = plan.nozzles;
  above = (plan.nozzles - 1) * plan.pitch;
  count = pass_count plan.nozzles plan.pitch plan.height;
  start = λ pass. pass * plan.nozzles;
  row = λ t pass place nozzle. plane_row t place (nozzle_row plan.nozzles plan.pitch plan.height pass nozzle);
}
