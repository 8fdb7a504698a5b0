-- The sums of a page that was written.
use Rattle.std.proofs.Common.{◌≡◌, ℕ, ◌+◌, ◌*◌, ◌<◌, ◌≤◌, ◌^◌, List, [], ◌∷◌, Result, Ok, Err, IfOk, refl, sym, ◌∙◌, ap, arith}
use Rattle.std.specs.List.{sum_by}
use Rattle.std.proofs.Math.Nat.{mul-le-mul_right}
use Rattle.std.proofs.lemmas.List.Sums.{sum_by-cons}
use Rattle.base_definitions.specs.Limits.{most_columns}
use Rattle.dot_planes.specs.Tables.{DotTable}
use Rattle.escp2_definitions.specs.Commands.{Entry, commands}
use Rattle.escp2_definitions.specs.Rasters.{raster_count}
use Rattle.page_definitions.specs.Dots.{Halftone}
use Rattle.page_definitions.specs.PageBytes.{page_coding}
use Rattle.page_definitions.specs.Strokes.{Spoken, page_commands}
use Rattle.page_definitions.specs.Ways.{most_rasters, way_strokes}
use Rattle.page_definitions.specs.declared.way.Way.{Way}
use Rattle.page_laws.proofs.Headline.{page-coded}
use Rattle.page_laws.proofs.Numbers.{form-sized}
use Rattle.page_laws.proofs.Rasters.{all-rasters}
use Rattle.page_laws.proofs.WaysKept.{way-bytes, way-fires}
use Rattle.page_laws.specs.Sized.{Sized}
use Rattle.page_writer.specs.Shows.{Shows}
use Rattle.page_writer.specs.Sums.{SumsHalftone, most_of_page, most_of_pass, most_pass, rasters_in}
use Rattle.page_writer.specs.declared.strokes.WriteStop.{WriteStop}
use Rattle.page_writer.specs.declared.sums.PageSum.{PageSum}
use Rattle.page_writer.proofs.Inks.{pass_short}
use Rattle.page_writer.proofs.OverPlanes.{IsOnSheet, on_sheet}
use Rattle.page_writer.proofs.WayHeads.{IsOfPage, few-strokes}
use Rattle.printer_definitions.specs.Printer.{Printer, row_units}
use Rattle.pwg_definitions.specs.declared.pages.PageForm.{PageForm}
use Rattle.separation_definitions.specs.CanPrint.{CanPrint}
use Rattle.driver_core.specs.Trying.Pages.{SumsBy}

-- rasters among commands, as a sum
rasters-sum : (job : List Spoken) → rasters_in job ≡ sum_by (λ (s : Spoken). raster_count s.command) job
rasters-sum [] = refl
rasters-sum (s ∷ job) =
    ap (λ n. raster_count s.command + n) (rasters-sum job) ∙ sym (sum_by-cons (λ (s : Spoken). raster_count s.command) s job)

-- a page of few strokes has less than a terabyte
page-short : (p : Printer) (count width bytes : ℕ) → CanPrint p → width ≤ most_columns → count ≤ 40000
    → bytes ≤ 49 + count * most_of_pass p width → bytes < 2 ^ 40
page-short p count width bytes can wide few short =
    let pass : most_of_pass p width ≤ most_pass = pass_short p width can wide in
    let all : count * most_of_pass p width ≤ 40000 * most_of_pass p width = mul-le-mul_right (most_of_pass p width) few in
    omega (arith, short, all, pass)

-- the size of a page is that of its bytes
pub sums_by : {way : Way} {p : Printer} {t : DotTable} {f : PageForm} (h : Halftone) (result : Result PageSum WriteStop)
    → IsOfPage way p t f → Shows p t h → IfOk result (SumsHalftone way p h (f.height * row_units p))
    → IfOk result (λ sum. sum.bytes ≤ most_of_page way p t.width t.rows) → IfOk result (SumsBy way p h (f.height * row_units p))
sums_by {way} {p} {t} {f} h (Ok sum) is shows sums short =
    let len : ℕ = f.height * row_units p in
    let on : IsOnSheet p t = on_sheet p t f is.can is.wanted is.width is.rows in
    let size : Sized p h f.height = form-sized p h f is.can is.wanted (sym shows.width_is ∙ is.width) (sym shows.rows_is ∙ is.rows) in
    record {
      bytes = sums.bytes_are;
      rasters = sums.rasters_are
          ∙ rasters-sum (page_commands p h.width h.height page_coding.c len (way_strokes way p h))
          ∙ sym (all-rasters p h page_coding (way_strokes way p h) f.height is.can page-coded size (way-fires way p h is.can is.go))
          ∙ ap (λ bs. sum_by (λ (e : Entry). raster_count e.command) (commands bs).entries) (sym (way-bytes way p h len));
      short = page-short p (most_rasters way p t.rows) t.width sum.bytes is.can on.columns
          (few-strokes way p t.rows is.can is.go on.low) short;
    }
sums_by h (Err why) is shows sums short = tt
