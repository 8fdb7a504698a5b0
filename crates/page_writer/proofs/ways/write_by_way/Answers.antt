use Rattle.std.proofs.Common.{ℕ, ◌*◌, List, ap, subst, sym, ◌∙◌}
use Rattle.page_definitions.specs.Healed.{worn_head}
use Rattle.page_definitions.specs.Ways.{CanGo}
use Rattle.page_definitions.specs.declared.way.Way.{Way}
use Rattle.page_writer.specs.Healed.{healed_strokes}
use Rattle.page_writer.specs.Passes.{pass_strokes}
use Rattle.page_writer.specs.Shingles.{shingle_strokes}
use Rattle.page_writer.proofs.WayHeads.{way_head}
use Rattle.page_writer.proofs.Written.{made_is, none_written, page_of, page_written, strokes_suit, strokes_written}
use Rattle.printer_definitions.specs.Printer.{Printer, row_units}
use Rattle.shingle_plan.specs.Fits.{Shingles, Shingling}
use Rattle.weave_definitions.specs.Weaving.{Weaving}
use Rattle.page_writer.proofs.ways.write_by_way.Goals as goal

-- the plans of a printer over so many rows
abbrev weaving : Printer → ℕ → Weaving
weaving p rows = record { nozzles = p.nozzles; pitch = p.pitch; height = rows }

abbrev shingling : Printer → ℕ → Shingling
shingling p rows = record { nozzles = p.nozzles; pitch = p.pitch; height = rows }

-- ---- interleaved passes

pub write_strokes-requires-clause-suits : goal.write_strokes-requires-clause-suits
write_strokes-requires-clause-suits g c κs within =
    let is = page_of c.args.way.now c.args.profile.now c.args.planes.now c.args.form c.profile.view_is c.checked_can_print.ensures
    c.requires.checked c.requires.way c.requires.wanted c.requires.width c.requires.rows c.requires.inks in
    strokes_suit is c.in-Woven.is (ap pass_strokes (made_is weaving c.profile.view_is c.make-passes.ensures c.rows.ensures))

pub returns-in-Woven : goal.returns-in-Woven
returns-in-Woven g c =
    let is = page_of c.args.way.now c.args.profile.now c.args.planes.now c.args.form c.profile.view_is c.checked_can_print.ensures
    c.requires.checked c.requires.way c.requires.wanted c.requires.width c.requires.rows c.requires.inks in
    strokes_written is c.in-Woven.is (ap pass_strokes (made_is weaving c.profile.view_is c.make-passes.ensures c.rows.ensures))
    c.write_strokes.ensures

-- ---- shingled passes

pub make-shingles-requires-clause-fits : goal.make-shingles-requires-clause-fits
make-shingles-requires-clause-fits g c =
    let P : Printer → Type 0 = λ p. Shingles p.nozzles p.pitch in
    subst P (sym c.profile.view_is) (subst (λ (way : Way). CanGo way c.args.profile.now) c.in-Shingled.is c.requires.way)

pub write_strokes-requires-in-Shingled-clause-suits : goal.write_strokes-requires-in-Shingled-clause-suits
write_strokes-requires-in-Shingled-clause-suits g c κs within =
    let is = page_of c.args.way.now c.args.profile.now c.args.planes.now c.args.form c.profile.view_is c.checked_can_print.ensures
    c.requires.checked c.requires.way c.requires.wanted c.requires.width c.requires.rows c.requires.inks in
    strokes_suit is c.in-Shingled.is (ap shingle_strokes (made_is shingling c.profile.view_is c.make-shingles.ensures c.rows-in-Shingled.ensures))

pub returns-in-Shingled : goal.returns-in-Shingled
returns-in-Shingled g c =
    let is = page_of c.args.way.now c.args.profile.now c.args.planes.now c.args.form c.profile.view_is c.checked_can_print.ensures
    c.requires.checked c.requires.way c.requires.wanted c.requires.width c.requires.rows c.requires.inks in
    strokes_written is c.in-Shingled.is (ap shingle_strokes (made_is shingling c.profile.view_is c.make-shingles.ensures c.rows-in-Shingled.ensures))
    c.write_strokes-in-Shingled.ensures

-- ---- around dead nozzles

pub write_strokes-requires-in-Healed-clause-suits : goal.write_strokes-requires-in-Healed-clause-suits
write_strokes-requires-in-Healed-clause-suits g c κs within =
    let p : Printer = c.args.profile.now in
    let is = page_of c.args.way.now p c.args.planes.now c.args.form c.profile.view_is c.checked_can_print.ensures
    c.requires.checked c.requires.way c.requires.wanted c.requires.width c.requires.rows c.requires.inks in
    let made = made_is (worn_head c.deref.result.now) c.profile.view_is c.in-Ok.ensures.plan c.rows-in-Healed.ensures in
    strokes_suit is c.in-Healed.is (ap healed_strokes (made
    ∙ ap (λ (dead : List ℕ). worn_head dead p c.args.planes.now.rows) c.deref.ensures.0))

pub returns-in-Ok : goal.returns-in-Ok
returns-in-Ok g c =
    let p : Printer = c.args.profile.now in
    let is = page_of c.args.way.now p c.args.planes.now c.args.form c.profile.view_is c.checked_can_print.ensures
    c.requires.checked c.requires.way c.requires.wanted c.requires.width c.requires.rows c.requires.inks in
    let made = made_is (worn_head c.deref.result.now) c.profile.view_is c.in-Ok.ensures.plan c.rows-in-Healed.ensures in
    strokes_written is c.in-Healed.is (ap healed_strokes (made
    ∙ ap (λ (dead : List ℕ). worn_head dead p c.args.planes.now.rows) c.deref.ensures.0)) c.write_strokes-in-Healed.ensures

-- no memory for the plan
pub returns-in_default : goal.returns-in_default
returns-in_default g c =
    let p : Printer = c.args.profile.now in
    let is = page_of c.args.way.now p c.args.planes.now c.args.form c.profile.view_is c.checked_can_print.ensures
    c.requires.checked c.requires.way c.requires.wanted c.requires.width c.requires.rows c.requires.inks in
    page_written c.args.way.now p c.args.planes.now c.args.form _ _ is
    (none_written p (way_head c.args.way.now p c.args.planes.now.rows) c.args.planes.now (c.args.form.height * row_units p)
    (g.K.Sink.held c.args.sink.now) (g.K.Sink.faults c.args.sink.now))
