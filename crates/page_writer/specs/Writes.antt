-- What writing a page comes to.
use Rattle.std.specs.Prelude.{IfOk, IsErrOf, OnOk, Result, ℕ, ◌*◌, ◌+◌, ◌≤◌}
use Rattle.std.specs.Io.KnownBytes.{Appends, Keeps}
use Rattle.buffered_bytes.specs.Outside.{HasRisen, Outside}
use Rattle.dot_planes.specs.Tables.{DotTable}
use Rattle.page_definitions.specs.Dots.{Halftone, dots_wanted}
use Rattle.page_definitions.specs.Printing.{GivesSheet}
use Rattle.page_definitions.specs.Ways.{KeepsWay, halftone_bytes_by, most_rasters}
use Rattle.page_definitions.specs.declared.way.Way.{Way}
use Rattle.page_writer.specs.AtMost.{AppendsAtMost}
use Rattle.page_writer.specs.Heads.{HeadStrokes, strokes_over}
use Rattle.page_writer.specs.Shows.{Shows}
use Rattle.page_writer.specs.StrokeBytes.{head_bytes}
use Rattle.page_writer.specs.Sums.{SumsHalftone, SumsStrokes, most_of_page, most_of_pass}
use Rattle.page_writer.specs.declared.strokes.WriteStop.{WriteStop}
use Rattle.page_writer.specs.declared.strokes.WriteStop.TheVariants as stop
use Rattle.page_writer.specs.declared.sums.PageSum.{PageSum}
use Rattle.printer_definitions.specs.Printer.{Printer, row_units}
use Rattle.pwg_definitions.specs.declared.pages.PageForm.{PageForm}
use Rattle.weave_base.specs.Parts.{AppendsPart}

-- The strokes of a head over planes were written, on a sheet of this length in units, or part of them or nothing.
pub record WritesStrokes (p : Printer) (head : HeadStrokes) (t : DotTable) (len : ℕ) (sink : Outside) (result : Result PageSum WriteStop) : Type 0 where
  pub ok : OnOk result (Appends sink.before sink.now (head_bytes p head t len))
  pub sum : IfOk result (SumsStrokes p t.width t.rows len (strokes_over p head t))
  pub part : IsErrOf result stop.Write → AppendsPart sink.before sink.now (head_bytes p head t len)
  pub short : IfOk result (λ sum. sum.bytes ≤ 49 + head.count * most_of_pass p t.width)
  pub write : IsErrOf result stop.Write → HasRisen sink
  pub memory : IsErrOf result stop.Memory → Keeps sink.before sink.now
  pub later : sink.faults_before ≤ sink.faults_now

-- A page of this form was written this way from planes of its dots, or part of it or nothing. The first six clauses
-- are of each halftone that the planes show: its bytes were appended (`ok`), and so many (`sum`), or a proper prefix of
-- them (`part`); they give one sheet with its dots (`prints`), and keep to the way (`keeps`). Whatever the answer, what
-- was appended has no more rasters of an ink than the way takes (`few`).
pub record WritesPage (way : Way) (p : Printer) (form : PageForm) (t : DotTable) (sink : Outside) (result : Result PageSum WriteStop) : Type 0 where
  pub ok : (h : Halftone) → Shows p t h
      → OnOk result (Appends sink.before sink.now (halftone_bytes_by way p h (form.height * row_units p)))
  pub sum : (h : Halftone) → Shows p t h → IfOk result (SumsHalftone way p h (form.height * row_units p))
  pub part : (h : Halftone) → Shows p t h → IsErrOf result stop.Write
      → AppendsPart sink.before sink.now (halftone_bytes_by way p h (form.height * row_units p))
  pub prints : (h : Halftone) → Shows p t h
      → GivesSheet p (halftone_bytes_by way p h (form.height * row_units p)) (dots_wanted p h)
  pub keeps : (h : Halftone) → Shows p t h
      → KeepsWay way p t.rows (halftone_bytes_by way p h (form.height * row_units p))
  pub few : (h : Halftone) → Shows p t h → AppendsAtMost (most_rasters way p t.rows) sink.before sink.now
  pub short : IfOk result (λ sum. sum.bytes ≤ most_of_page way p t.width t.rows)
  pub write : IsErrOf result stop.Write → HasRisen sink
  pub memory : IsErrOf result stop.Memory → Keeps sink.before sink.now
  pub later : sink.faults_before ≤ sink.faults_now
