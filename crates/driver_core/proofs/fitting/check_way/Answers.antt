use Rattle.std.proofs.Common.{◌≤◌, IfErr, OnOk, sym, subst, arith}
use Rattle.page_definitions.specs.Ways.{CanGo}
use Rattle.page_definitions.specs.declared.way.Way.{Way}
use Rattle.printer_definitions.specs.Printer.{Printer}
use Rattle.printer_profile.proofs.CheckedProfiles.{can_print}
use Rattle.shingle_plan.specs.Fits.{Shingles}
use Rattle.driver_core.specs.Runs.Fitting.{RefusesWay}
use Rattle.driver_core.proofs.Runs.Fitting.{refused_shingles}
use Rattle.driver_core.proofs.fitting.check_way.Goals as goal

pub returns-in-Shingled-clause-ok : goal.returns-in-Shingled-clause-ok
returns-in-Shingled-clause-ok c =
    let P : Way → Type 0 = λ way. OnOk c.check_shingles.result (CanGo way c.args.profile.now) in
    let Q : Printer → Type 0 = λ p. OnOk c.check_shingles.result (Shingles p.nozzles p.pitch) in
    subst P (sym c.in-Shingled.is) (subst Q c.profile.view_is c.check_shingles.ensures.ok)

pub returns-in-Shingled-clause-err : goal.returns-in-Shingled-clause-err
returns-in-Shingled-clause-err c =
    let P : Way → Type 0 = λ way. IfErr c.check_shingles.result (RefusesWay way c.args.profile.now) in
    subst P (sym c.in-Shingled.is)
    (refused_shingles _ c.args.profile.now c.check_shingles.result c.profile.view_is c.check_shingles.ensures.unfit c.check_shingles.ensures.err)

pub check_dead-requires-clause-some_nozzles : goal.check_dead-requires-clause-some_nozzles
check_dead-requires-clause-some_nozzles c =
    let P : Printer → Type 0 = λ p. 1 ≤ p.nozzles in
    subst P (sym c.profile.view_is) (can_print c.args.profile.now
    (subst (λ (p : Printer). p.nozzles ≤ 255) c.profile.view_is (omega (arith, c.if-prove.false))) c.requires.checked).some_nozzles
