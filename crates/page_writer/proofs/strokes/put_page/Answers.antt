use Rattle.std.proofs.Common.{◌*◌, refl, arith}
use Rattle.page_definitions.specs.Strokes.{Strokes}
use Rattle.printer_definitions.specs.Printer.{Printer, row_units}
use Rattle.weave_base.proofs.Parting.{on_err_anyway}
use Rattle.page_writer.specs.Heads.{strokes_over}
use Rattle.page_writer.proofs.Inks.{pass_short, strokes_fit}
use Rattle.page_writer.proofs.Whole.{all_written, end_part, page_is, page_sums, strokes_part}
use Rattle.page_writer.proofs.strokes.put_page.Goals as goal

pub returns-in_err-strokes-clause-part : goal.returns-in_err-strokes-clause-part
returns-in_err-strokes-clause-part g c =
    let whole = page_is c.args.page.now.profile.now (g.H.Head.strokes c.args.page.now.head.now) c.args.page.now.planes.now
    c.sheet_of.ensures.length c.sheet_of.ensures.top c.above.ensures c.sheet_of.ensures.bottom c.requires.rows in
    on_err_anyway _ (strokes_part _ _ _ whole c.requires.empty c.append_prologue.ensures.items c.in_err-strokes.ensures.part)

pub returns-in_err-put_end-clause-part : goal.returns-in_err-put_end-clause-part
returns-in_err-put_end-clause-part g c =
    let whole = page_is c.args.page.now.profile.now (g.H.Head.strokes c.args.page.now.head.now) c.args.page.now.planes.now
    c.sheet_of.ensures.length c.sheet_of.ensures.top c.above.ensures c.sheet_of.ensures.bottom c.requires.rows in
    on_err_anyway _ (end_part _ _ whole c.requires.empty c.append_prologue.ensures.items c.in_ok-strokes.ensures.ok.gathers
    c.in_err-put_end.ensures.part)

pub returns-clause-ok : goal.returns-clause-ok
returns-clause-ok g c =
    let whole = page_is c.args.page.now.profile.now (g.H.Head.strokes c.args.page.now.head.now) c.args.page.now.planes.now
    c.sheet_of.ensures.length c.sheet_of.ensures.top c.above.ensures c.sheet_of.ensures.bottom c.requires.rows in
    all_written _ _ _ whole c.requires.empty c.append_prologue.ensures.items c.in_ok-strokes.ensures.ok.gathers
    c.in_ok-put_end.ensures.ok

pub returns-clause-sum : goal.returns-clause-sum
returns-clause-sum g c =
    let p : Printer = c.args.page.now.profile.now in
    let strokes : Strokes = strokes_over p (g.H.Head.strokes c.args.page.now.head.now) c.args.page.now.planes.now in
    let whole = page_is p (g.H.Head.strokes c.args.page.now.head.now) c.args.page.now.planes.now
    c.sheet_of.ensures.length c.sheet_of.ensures.top c.above.ensures c.sheet_of.ensures.bottom c.requires.rows in
    page_sums p c.args.page.now.planes.now.width c.args.page.now.planes.now.rows (c.args.form.height * row_units p) strokes _ _ _ _ _
    whole c.in_ok-strokes.ensures.ok.bytes_are refl c.in_ok-strokes.ensures.ok.rasters_are

pub overflow_add-result : goal.overflow_add-result
overflow_add-result g c =
    let fit = strokes_fit _ (g.H.Head.strokes c.args.page.now.head.now).count _ c.in_ok-strokes.ensures.ok.short c.requires.suits.few
    (pass_short c.args.page.now.profile.now c.args.page.now.planes.now.width c.requires.suits.can c.requires.suits.over.columns) in
    omega (arith, fit)
