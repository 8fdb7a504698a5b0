use Rattle.std.proofs.Common.{ℕ, ◌+◌, ◌*◌, ◌≤◌, Option, Some, sym, ap, subst, arith}
use Rattle.page_halftoner.specs.Screenings.{screening_of}
use Rattle.halftone_reader.specs.declared.pages.HalftonedPage.{HalftonedPage}
use Rattle.page_definitions.specs.Dots.{halftone}
use Rattle.printer_definitions.specs.Printer.{Printer, row_units}
use Rattle.printer_profile.proofs.CheckedProfiles.{can_print}
use Rattle.pwg_definitions.specs.declared.pages.PageForm.{PageForm}
use Rattle.separation_definitions.specs.Windows.{wanted_by}
use Rattle.driver_core.proofs.Printing.Setups.{same-grain, same-kernel, same-profile}
use Rattle.driver_core.proofs.Printing.Ends.{page-wanted}
use Rattle.driver_core.proofs.Trying.Steps.{TriedSoFar, all_tried, page_stops, tried_begin, tried_page}
use Rattle.driver_core.proofs.trial.pages.try_stream.Goals as goal

pub pages-init : goal.pages-init
pages-init g c = record {
  tried = tried_begin c.in-Ok.reader c.args.counter.now c.in-Ok.ensures.sync c.in-Ok.ensures.none.0
      (record { whole = c.in-Ok.ensures.none.1; going = c.in-Ok.ensures.going }) c.in-Ok.ensures.none.2
      c.requires.between c.requires.sheets c.requires.counts;
}

pub returns-in-Ok-None-clause-ok : goal.returns-in-Ok-None-clause-ok
returns-in-Ok-None-clause-ok g c =
    let end = rw c.in-Ok-None.field-0-is at c.in-Ok-None.ensures.none in
    all_tried c.totals.result c.pages.invariant.tried end.0 c.totals.ensures

pub returns-in-Err-read_page-clause-err : goal.returns-in-Err-read_page-clause-err
returns-in-Err-read_page-clause-err g c =
    page_stops (Option HalftonedPage) c.in-Err-read_page.stop
    c.stream_answer-in-Err-read_page.result c.pages.invariant.tried c.in-Err-read_page.ensures.input
    c.in-Err-read_page.ensures.read c.stream_answer-in-Err-read_page.ensures

pub try_page-requires-clause-wanted : goal.try_page-requires-clause-wanted
try_page-requires-clause-wanted g c κs within =
    let read = rw (c.in-Ok-Some.field-0-is, same-kernel c.how.view_is, same-grain c.how.view_is) at c.in-Ok-Some.ensures.page in
    page-wanted (wanted_by c.args.how.now.profile) read.reads.bytes read.page c.in-Ok-Some.page.form read.form_is read.reads.is

pub overflow_add-written : goal.overflow_add-written
overflow_add-written g c =
    let p : Printer = c.args.how.now.profile in
    let read = rw (c.in-Ok-Some.field-0-is, same-kernel c.how.view_is, same-grain c.how.view_is) at c.in-Ok-Some.ensures.page in
    let tries = c.in_ok-sum.ensures.ok (halftone read.page p (screening_of c.args.how.now.kernel c.args.how.now.grain)) read.dots in
    omega (arith, c.pages.invariant.tried.few_bytes, tries.sums.short, c.pages-test.true)

pub pages-preserved : goal.pages-preserved
pages-preserved g c =
    let p : Printer = c.args.how.now.profile in
    let read = rw (c.in-Ok-Some.field-0-is, same-kernel c.how.view_is, same-grain c.how.view_is) at c.in-Ok-Some.ensures.page in
    let can = can_print p (subst (λ (p : Printer). p.nozzles ≤ 255) (same-profile c.how.view_is) (omega (arith, c.if-prove.false))) c.requires.printed.checked in
    let tried = tried_page c.pages.reader c.read_page.new.reader c.pages.number read.page c.try_page.new.counter c.in_ok-sum.sum
    (c.in-Ok-Some.page.form.height * row_units p) can c.pages.invariant.tried read.reads
    (rw c.in-Ok-Some.field-0-is at c.in-Ok-Some.ensures.between) (omega arith)
    (ap (λ (f : PageForm). f.height * row_units p) read.form_is)
    (c.in_ok-sum.ensures.ok (halftone read.page p (screening_of c.args.how.now.kernel c.args.how.now.grain)) read.dots) in
    let P : ℕ → Type 0 = λ n. TriedSoFar c.args.how.now.way p (screening_of c.args.how.now.kernel c.args.how.now.grain) (Some c.args.maker.now)
    (Some c.read_page.new.source) c.read_page.new.reader (c.pages.number + 1)
    (record { bytes = c.pages.written.bytes + c.in_ok-sum.sum.bytes; rasters = c.pages.written.rasters + n }) c.try_page.new.counter in
    record { tried = subst P (sym c.from.ensures) tried }
