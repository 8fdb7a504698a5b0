use Rattle.std.proofs.Common.{◌≡◌, ◌*◌, List, ap, refl, subst, sym, ◌∙◌, ℕ}
use Rattle.std.specs.Prelude.{Ok, None}
use Rattle.escp2_definitions.specs.Commands.{row_bytes}
use Rattle.escp2_definitions.specs.declared.command.Command.TheVariants as command
use Rattle.escp2_definitions.specs.declared.command.RasterHead.{RasterHead}
use Rattle.dot_emulator.specs.declared.emulator.Emulator.{Emulator}
use Rattle.dot_emulator.specs.declared.firing.Raster.{Raster}
use Rattle.dot_emulator.specs.declared.raster.Steps.{Steps}
use Rattle.dot_emulator.specs.declared.state.State.{State}
use Rattle.dot_emulator.specs.Firing.{Grid, HasRows, IsAbove}
use Rattle.dot_emulator.specs.Pages.{sheet_rows}
use Rattle.dot_emulator.specs.Runs.{Runs}
use Rattle.dot_emulator.specs.States.{machine_of}
use Rattle.std.proofs.lemmas.Result.{err_from_is_err_and}
use Rattle.escp2_definitions.specs.Machine.{Machine, after}
use Rattle.dot_emulator.specs.Places.{Placed, grid_of}
use Rattle.dot_emulator.proofs.Running.{above-margin, blank-shows, fire-runs, laid-shows, late, planes-have, raster-step, rows-high}
use Rattle.dot_emulator.proofs.emulator.Emulator.fire.Goals as goal
use Rattle.dot_emulator.proofs.emulator.Emulator.fire.Goals.{then-has_dots+in_ok-lay, else-has_dots}

pub look-requires-clause-height : goal.look-requires-clause-height
look-requires-clause-height c = rows-high c.args.self.now.planes _ c.in_ok-raster.raster.end
    c.args.self.now.rows c.in_ok-raster.ensures.on_page

pub returns-in_err-has_dots : goal.returns-in_err-has_dots
returns-in_err-has_dots c =
    let error = err_from_is_err_and c.from_residual-in_err-has_dots.result c.from_residual-in_err-has_dots.ensures.1 in
    rw (error.1, error.2) (λ p m shows.
    let P : Machine → Type 0 = λ n. Placed p n c.args.header c.in_ok-raster.raster in
    let placed = subst P shows.state (c.in_ok-raster.ensures.placed p m.dots shows.steps) in (
      late p m c.args.header c.in_ok-raster.raster c.args.rows.now placed
          ∙ c.in_err-has_dots.ensures
          (grid_of p m) m.dots placed.stands (planes-have p m c.args.self.now.planes shows.dots),
      refl,
    ))

pub returns-in_err-lay : goal.returns-in_err-lay
returns-in_err-lay c =
    let error = err_from_is_err_and c.from_residual-in_err-lay.result c.from_residual-in_err-lay.ensures.1 in
    rw (error.1, error.2) (λ p m shows.
    let P : Machine → Type 0 = λ n. Placed p n c.args.header c.in_ok-raster.raster in
    let placed = subst P shows.state (c.in_ok-raster.ensures.placed p m.dots shows.steps) in (
      late p m c.args.header c.in_ok-raster.raster c.args.rows.now placed
          ∙ (c.in_ok-has_dots.ensures
          (grid_of p m) m.dots placed.stands (planes-have p m c.args.self.now.planes shows.dots)).0,
      c.in_err-lay.ensures.unchanged,
    ))

pub returns : goal.returns
returns c = λ p m shows.
    let old : Emulator = c.args.self.now in
    let r : Raster = c.in_ok-raster.raster in
    let rows : List ℕ = c.args.rows.now in
    let g : Grid = grid_of p m in
    let H : RasterHead → Type 0 = λ h. Placed p (machine_of old.state m.dots) h r in
    let M : Machine → Type 0 = λ n. Placed p n c.args.header r in
    let shown = c.in_ok-raster.ensures.placed p m.dots shows.steps in
    let header_is : r.header ≡ c.args.header = c.in_ok-raster.ensures.header in
    let placed : Placed p m c.args.header r = subst M shows.state shown in
    let looked = c.in_ok-has_dots.ensures g m.dots placed.stands (planes-have p m old.planes shows.dots) in
    let none = looked.0 in
    let fits : HasRows r rows = c.requires.rows_fit ∙ ap (λ (h : RasterHead). h.m * row_bytes h) (sym header_is) in
    let above : IsAbove g r rows = above-margin _ _ none in
    let step = raster-step p m c.args.header r rows old c.after_raster-next.result shows header_is
    (c.after_raster-next.ensures.step p m.dots rows (subst H (sym header_is) shown)) in
    let R : Emulator → Type 0 = λ e. Runs p m (command.Raster c.args.header) rows old e (Ok None) in
    elim c.if-has_dots.branch [
      | then-has_dots+in_ok-lay w ↦
          let laid = w.in_ok-lay.ensures.laid g m.dots placed.stands above (planes-have p m old.planes shows.dots) in
          let S : State → Type 0 = λ s. machine_of s (after p m (command.Raster c.args.header) rows).dots
          ≡ after p m (command.Raster c.args.header) rows in
          let height = w.lay.new.self.rows
          ∙ ap (λ (s : State). sheet_rows s.page w.lay.new.self.steps.row) w.in_ok-lay.ensures.state
          ∙ ap (λ o. sheet_rows o w.lay.new.self.steps.row) c.after_raster-next.ensures.page
          ∙ ap (λ (s : Steps). sheet_rows old.state.page s.row) w.in_ok-lay.ensures.steps in
          subst R (sym w.self-is) (fire-runs p m c.args.header r rows old w.lay.new.self shows
          (record {
            placed = placed;
            fits = fits;
            none = none;
            steps = w.in_ok-lay.ensures.steps;
            step = subst S (sym w.in_ok-lay.ensures.state) step;
          })
          (laid-shows p m c.args.header r rows old.planes w.lay.new.self.planes (sheet_rows
          old.state.page old.steps.row) placed fits above shows.dots old.rows c.in_ok-raster.ensures.on_page
          _ height laid (sym looked.1 ∙ w.if-has_dots.true)))
      | else-has_dots w ↦
          subst R (sym w.self-is) (fire-runs p m c.args.header r rows old _ shows
          (record { placed = placed; fits = fits; none = none; steps = refl; step = step })
          (blank-shows p m c.args.header r rows old.planes placed (sym looked.1 ∙ w.if-has_dots.false) shows.dots))
    ]
