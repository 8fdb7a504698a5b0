use Rattle.std.proofs.Common.{ap, refl, subst, sym, ◌∙◌}
use Rattle.std.specs.Prelude.{Ok, Err}
use Rattle.std.proofs.lemmas.Result.{err_from_is_err_and}
use Rattle.escp2_definitions.specs.Machine.{Machine}
use Rattle.escp2_definitions.specs.declared.command.Command.TheVariants as command
use Rattle.dot_emulator.specs.Sheets.{IsBlankFrom}
use Rattle.dot_emulator.specs.States.{IsStep}
use Rattle.dot_emulator.specs.declared.state.State.{State}
use Rattle.dot_emulator.proofs.Running.{blank-taken, eject-runs}
use Rattle.dot_emulator.proofs.emulator.Emulator.eject.Goals as goal

pub returns-in_err-state : goal.returns-in_err-state
returns-in_err-state c =
    let error = err_from_is_err_and c.from_residual.result c.from_residual.ensures.1 in
    rw (error.1, error.2) (λ p m rows shows.
    let P : Machine → Type 0 = λ n. IsStep p n command.Eject (Err c.in_err-state.field-0.0) in
    (subst P shows.state (c.in_err-state.ensures.step p m.dots) rows, refl))

pub returns-in_err-planes : goal.returns-in_err-planes
returns-in_err-planes c =
    let error = err_from_is_err_and c.from_residual-in_err-planes.result c.from_residual-in_err-planes.ensures.1 in
    rw (error.1, error.2) (λ p m rows shows.
    let P : Machine → Type 0 = λ n. IsStep p n command.Eject (Ok c.in_ok-state.state) in
    ((subst P shows.state (c.in_ok-state.ensures.step p m.dots) rows).0, c.in_err-planes.ensures.unchanged))

pub invariant_of-sheet : goal.invariant_of-sheet
invariant_of-sheet c =
    let taken = c.in_ok-planes.ensures.taken in
    let B : State → Type 0 = λ s. IsBlankFrom s.columns c.in_ok-planes.planes in
    record {
      inks = taken.inks;
      height = sym c.rows.ensures;
      some = c.take_planes.new.self.state.columns_some;
      most = c.take_planes.new.self.state.columns_most;
      width = taken.width;
      blank = subst B (sym c.in_ok-planes.ensures.state) (λ ink y x in_inks low past.
          blank-taken c.args.self.now.planes
          c.in_ok-planes.planes c.args.self.now.state.columns taken.taken c.args.self.now.blank ink y x in_inks low past);
    }

pub returns : goal.returns
returns c = λ p m rows shows. eject-runs p m rows c.args.self.now _ _ shows (record {
  step = c.in_ok-state.ensures.step p m.dots;
  steps = c.in_ok-planes.ensures.steps;
  none = c.in_ok-planes.ensures.none;
  rows = c.rows.ensures ∙ c.in_ok-planes.ensures.taken.height;
  columns = ap (λ (s : State). s.columns) c.in_ok-planes.ensures.state;
  inks = c.in_ok-planes.ensures.taken.inks;
  taken = c.in_ok-planes.ensures.taken.taken;
})
