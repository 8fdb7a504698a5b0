-- The shingled passes of the head as strokes over planes.
use Rattle.std.specs.Prelude.{◌*◌}
use Rattle.page_definitions.specs.Shingled.{every_other}
use Rattle.page_writer.specs.Heads.{HeadStrokes}
use Rattle.page_writer.specs.Passes.{plane_row}
use Rattle.shingle_plan.specs.Fits.{Shingling}
use Rattle.shingle_plan.specs.Shingles.{fires_even, half, rows_above, shingle_count, shingle_row}

-- The strokes of a plan are its passes. A nozzle fires every other dot of a row of each ink's plane, blank off the
-- window.
abbrev pub shingle_strokes : Shingling → HeadStrokes
shingle_strokes plan = record {
  rows = plan.height;
  nozzles = plan.nozzles;
  above = rows_above plan.nozzles plan.pitch;
  count = shingle_count plan.nozzles plan.pitch plan.height;
  start = λ pass. pass * half plan.nozzles;
  row = λ t pass place nozzle. every_other (fires_even plan.nozzles nozzle)
      (plane_row t place (shingle_row plan.nozzles plan.pitch plan.height pass nozzle));
}
