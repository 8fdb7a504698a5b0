use Rattle.std.proofs.Common.{List, ℕ, ◌*◌, Err, Option, [], ◌∷◌, ◌++◌, arith, ap, subst, sym, ◌∙◌}
use Rattle.std.specs.Io.KnownBytes.{Appends}
use Rattle.std.proofs.KnownBytes.{Keeps-refl}
use Rattle.std.proofs.lemmas.Result.{err_from_is_err_and}
use Rattle.page_halftoner.specs.Screenings.{screening_of}
use Rattle.halftone_reader.specs.declared.pages.HalftonedPage.{HalftonedPage}
use Rattle.page_definitions.specs.Ways.{halftone_bytes_by, most_rasters}
use Rattle.page_definitions.specs.Dots.{halftone}
use Rattle.page_definitions.specs.declared.way.Way.{Way}
use Rattle.page_writer.specs.AtMost.{AppendsAtMost}
use Rattle.printer_definitions.specs.Printer.{Printer, row_units}
use Rattle.pwg_definitions.specs.declared.pages.PageForm.{PageForm}
use Rattle.separation_definitions.specs.Windows.{wanted_by, window_of}
use Rattle.weave_base.specs.Parts.{AppendsPart}
use Rattle.driver_core.specs.Outside.{outside_of}
use Rattle.driver_core.proofs.Printing.Setups.{same-grain, same-kernel, same-profile, same-way}
use Rattle.driver_core.proofs.Printing.Ends.{can_go, no_sync, page_over, page-bytes-is, page-wanted, page_not_written}
use Rattle.driver_core.proofs.Printing.Ends.{page_stopped, page_without_room, stream_done}
use Rattle.driver_core.proofs.Printing.Counting.{dots_counted, none_counted}
use Rattle.driver_core.proofs.Printing.StreamSteps.{next_read, page_counted, stream_begin, stream_written}
use Rattle.driver_core.proofs.print.pages.print_pages.Goals as goal

pub returns-in-Err-clause-outcome : goal.returns-in-Err-clause-outcome
returns-in-Err-clause-outcome g c =
    rw c.stream_answer.ensures
    (no_sync c.args.how.now.way c.args.how.now.profile (screening_of c.args.how.now.kernel c.args.how.now.grain)
    (outside_of g.S.Source.left g.S.Source.faults c.args.input.now c.begin.new.source)
    (outside_of g.K.Sink.held g.K.Sink.faults c.args.out.now c.args.out.now) _ c.in-Err.stop (Keeps-refl (g.K.Sink.held c.args.out.now))
    c.in-Err.ensures.input c.in-Err.ensures.place c.in-Err.ensures.read c.in-Err.ensures.taken c.in-Err.ensures.used)

pub pages-init : goal.pages-init
pages-init g c = record {
  stream = (
    [],
    stream_begin c.in-Ok.reader c.in-Ok.ensures.sync c.in-Ok.ensures.none.0
        (record { whole = c.in-Ok.ensures.none.1; going = c.in-Ok.ensures.going }) c.in-Ok.ensures.none.2,
    none_counted c.args.how.now.profile (screening_of c.args.how.now.kernel c.args.how.now.grain) _,
  );
  whole = omega arith;
  read_later = c.begin.ensures.later;
  written_later = omega arith;
}

pub returns-in-Err-read_page-clause-outcome : goal.returns-in-Err-read_page-clause-outcome
returns-in-Err-read_page-clause-outcome g c =
    rw c.stream_answer-in-Err-read_page.ensures
    (page_stopped (Option HalftonedPage) (outside_of g.S.Source.left g.S.Source.faults c.args.input.now c.read_page.new.source)
    (outside_of g.K.Sink.held g.K.Sink.faults c.args.out.now c.pages.out) c.read_page.new.reader c.pages.pages c.in-Err-read_page.stop
    (can_go c.args.how.now.way (same-profile c.how.view_is) (omega (arith, c.if-prove.false)) c.requires.checked c.requires.way)
    c.pages.invariant.stream.1 c.pages.invariant.whole c.pages.invariant.stream.2
    c.in-Err-read_page.ensures.input c.in-Err-read_page.ensures.place c.pages.invariant.read_later
    c.in-Err-read_page.ensures.read c.in-Err-read_page.ensures.taken c.read_page.ensures.used)

pub returns-in-Ok-None-clause-outcome : goal.returns-in-Ok-None-clause-outcome
returns-in-Ok-None-clause-outcome g c =
    let end = rw c.in-Ok-None.field-0-is at c.in-Ok-None.ensures.none in
    stream_done (outside_of g.S.Source.left g.S.Source.faults c.args.input.now c.read_page.new.source)
    (outside_of g.K.Sink.held g.K.Sink.faults c.args.out.now c.pages.out) c.read_page.new.reader c.pages.pages
    (can_go c.args.how.now.way (same-profile c.how.view_is) (omega (arith, c.if-prove.false)) c.requires.checked c.requires.way)
    c.pages.invariant.stream.1 c.pages.invariant.whole c.pages.invariant.stream.2 end.0 end.1 c.read_page.ensures.used

pub write_by_way-requires-clause-wanted : goal.write_by_way-requires-clause-wanted
write_by_way-requires-clause-wanted g c κs within =
    let read = rw (c.in-Ok-Some.field-0-is, same-kernel c.how.view_is, same-grain c.how.view_is) at c.in-Ok-Some.ensures.page in
    page-wanted (wanted_by c.args.how.now.profile) read.reads.bytes read.page c.in-Ok-Some.page.form read.form_is read.reads.is

pub write_by_way-requires-clause-width : goal.write_by_way-requires-clause-width
write_by_way-requires-clause-width g c κs within =
    let read = rw (c.in-Ok-Some.field-0-is, same-kernel c.how.view_is, same-grain c.how.view_is) at c.in-Ok-Some.ensures.page in
    read.dots.width_is ∙ ap (λ (f : PageForm). (window_of f c.args.how.now.profile).width) (sym read.form_is)

pub write_by_way-requires-clause-rows : goal.write_by_way-requires-clause-rows
write_by_way-requires-clause-rows g c κs within =
    let read = rw (c.in-Ok-Some.field-0-is, same-kernel c.how.view_is, same-grain c.how.view_is) at c.in-Ok-Some.ensures.page in
    read.dots.rows_is ∙ ap (λ (f : PageForm). (window_of f c.args.how.now.profile).height) (sym read.form_is)

pub write_by_way-requires-clause-inks : goal.write_by_way-requires-clause-inks
write_by_way-requires-clause-inks g c κs within =
    let read = rw (c.in-Ok-Some.field-0-is, same-kernel c.how.view_is, same-grain c.how.view_is) at c.in-Ok-Some.ensures.page in
    read.dots.inks_is

pub returns-in-Err-Write-clause-outcome : goal.returns-in-Err-Write-clause-outcome
returns-in-Err-Write-clause-outcome g c =
    let halftoned = rw (c.in-Ok-Some.field-0-is, same-kernel c.how.view_is, same-grain c.how.view_is) at c.in-Ok-Some.ensures.page in
    let counted = page_counted c.count_inks.result c.pages.invariant.stream halftoned
    (rw c.in-Ok-Some.field-0-is at c.in-Ok-Some.ensures.between) (same-profile c.how.view_is) c.count_inks.ensures.dots
    c.in_ok-charge.ensures.room c.in_ok-charge.ensures.counted in
    let B : List ℕ → Type 0 = λ bytes. AppendsPart (g.K.Sink.held c.pages.out) (g.K.Sink.held c.write_by_way.new.sink) bytes in
    let Q : Way → Type 0 = λ way. B (halftone_bytes_by way c.args.how.now.profile (halftone halftoned.page c.args.how.now.profile (screening_of c.args.how.now.kernel c.args.how.now.grain)) (c.in-Ok-Some.page.form.height * row_units c.args.how.now.profile)) in
    let part = subst B (page-bytes-is c.args.how.now.way halftoned)
    (subst Q (same-way c.how.view_is) (c.in-Err-Write.ensures.part (halftone halftoned.page c.args.how.now.profile (screening_of c.args.how.now.kernel c.args.how.now.grain)) halftoned.dots (ap Err c.in-Err-Write.field-0-is))) in
    let p : Printer = c.args.how.now.profile in
    let F : Way → Type 0 = λ way.
    AppendsAtMost (most_rasters way p c.in-Ok-Some.page.planes.rows) (g.K.Sink.held c.pages.out) (g.K.Sink.held c.write_by_way.new.sink) in
    let P : ℕ → Type 0 = λ rows.
    AppendsAtMost (most_rasters c.args.how.now.way p rows) (g.K.Sink.held c.pages.out) (g.K.Sink.held c.write_by_way.new.sink) in
    page_not_written (outside_of g.S.Source.left g.S.Source.faults c.args.input.now c.read_page.new.source)
    (outside_of g.K.Sink.held g.K.Sink.faults c.args.out.now c.write_by_way.new.sink) c.pages.pages
    (can_go c.args.how.now.way (same-profile c.how.view_is) (omega (arith, c.if-prove.false)) c.requires.checked c.requires.way)
    counted.0 c.pages.invariant.whole counted.1 part
    (subst P halftoned.dots.rows_is (subst F (same-way c.how.view_is) (c.in-Err-Write.ensures.few _ halftoned.dots))) c.pages.invariant.written_later
    (c.in-Err-Write.ensures.write (ap Err c.in-Err-Write.field-0-is))

pub returns-in-Err-Memory-clause-outcome : goal.returns-in-Err-Memory-clause-outcome
returns-in-Err-Memory-clause-outcome g c =
    let halftoned = rw (c.in-Ok-Some.field-0-is, same-kernel c.how.view_is, same-grain c.how.view_is) at c.in-Ok-Some.ensures.page in
    let counted = page_counted c.count_inks.result c.pages.invariant.stream halftoned
    (rw c.in-Ok-Some.field-0-is at c.in-Ok-Some.ensures.between) (same-profile c.how.view_is) c.count_inks.ensures.dots
    c.in_ok-charge.ensures.room c.in_ok-charge.ensures.counted in
    page_without_room (outside_of g.S.Source.left g.S.Source.faults c.args.input.now c.read_page.new.source)
    (outside_of g.K.Sink.held g.K.Sink.faults c.args.out.now c.write_by_way.new.sink) c.pages.pages
    (can_go c.args.how.now.way (same-profile c.how.view_is) (omega (arith, c.if-prove.false)) c.requires.checked c.requires.way)
    counted.0 c.pages.invariant.whole counted.1 (c.in-Err-Memory.ensures.memory (ap Err c.in-Err-Memory.field-0-is))

pub pages-preserved : goal.pages-preserved
pages-preserved g c =
    let halftoned = rw (c.in-Ok-Some.field-0-is, same-kernel c.how.view_is, same-grain c.how.view_is) at c.in-Ok-Some.ensures.page in
    let counted = page_counted c.count_inks.result c.pages.invariant.stream halftoned
    (rw c.in-Ok-Some.field-0-is at c.in-Ok-Some.ensures.between) (same-profile c.how.view_is) c.count_inks.ensures.dots
    c.in_ok-charge.ensures.room c.in_ok-charge.ensures.counted in
    let B : List ℕ → Type 0 = λ bytes. Appends (g.K.Sink.held c.pages.out) (g.K.Sink.held c.write_by_way.new.sink) bytes in
    let p : Printer = c.args.how.now.profile in
    let Q : Way → Type 0 = λ way. B (halftone_bytes_by way p (halftone halftoned.page p (screening_of c.args.how.now.kernel c.args.how.now.grain)) (c.in-Ok-Some.page.form.height * row_units p)) in
    record {
      stream = (
        c.pages.invariant.stream.0 ++ halftoned.page ∷ [],
        stream_written (g.K.Sink.held c.write_by_way.new.sink) counted.0
            (subst B (page-bytes-is c.args.how.now.way halftoned) (subst Q (same-way c.how.view_is) (c.in-Ok-write_by_way.ensures.ok _ halftoned.dots))),
        counted.1,
      );
      whole = omega arith;
      read_later = omega (arith, c.pages.invariant.read_later, c.read_page.ensures.later);
      written_later = omega (arith, c.pages.invariant.written_later, c.write_by_way.ensures.later);
    }

pub returns-in_err-charge-clause-outcome : goal.returns-in_err-charge-clause-outcome
returns-in_err-charge-clause-outcome g c =
    let halftoned = rw (c.in-Ok-Some.field-0-is, same-kernel c.how.view_is, same-grain c.how.view_is) at c.in-Ok-Some.ensures.page in
    let read = next_read c.pages.invariant.stream.1 halftoned.reads (rw c.in-Ok-Some.field-0-is at c.in-Ok-Some.ensures.between) in
    let are = dots_counted (screening_of c.args.how.now.kernel c.args.how.now.grain) _ halftoned.page c.count_inks.result (same-profile c.how.view_is) halftoned.dots c.count_inks.ensures.dots in
    let error = err_from_is_err_and c.from_residual.result c.from_residual.ensures.1 in
    rw (error.1, error.2)
    (page_over (outside_of g.S.Source.left g.S.Source.faults c.args.input.now c.read_page.new.source)
    (outside_of g.K.Sink.held g.K.Sink.faults c.args.out.now c.pages.out) c.pages.pages c.in_err-charge.field-0.0
    (can_go c.args.how.now.way (same-profile c.how.view_is) (omega (arith, c.if-prove.false)) c.requires.checked c.requires.way)
    read c.pages.invariant.whole c.pages.invariant.stream.2 are c.in_err-charge.ensures.over c.in_err-charge.ensures.kept)
