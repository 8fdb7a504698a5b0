use Rattle.std.proofs.Common.{◌+◌, ◌-◌, ◌/◌, ap, arith, refl, ◌∙◌, sym}
use Rattle.dot_emulator.proofs.Placing.{placed}
use Rattle.dot_emulator.specs.States.{machine_of}
use Rattle.dot_emulator.proofs.state.State.place.Goals as goal

pub returns-clause-placed : goal.returns-clause-placed
returns-clause-placed c = λ p dots steps. placed p (machine_of c.args.self.now dots) c.args.header c.args.steps _ (record {
  steps = steps;
  passed = sym c.in_default.is ∙ c.refuses_raster.ensures.is p steps;
  fits = omega (arith, c.if-x-from-gt-MOST_COLUMNS.false, c.from.ensures);
  header_is = refl;
  ink_is = refl;
  x_is = refl;
  y_is = ap (λ n. (n + c.args.self.now.down) / c.args.steps.row) c.top.ensures;
  pitch_is = refl;
  end_is = ap (λ n. (n + c.args.steps.row - 1) / c.args.steps.row) c.bottom.ensures.is;
  on_page = omega (arith, c.bottom.ensures.is, c.bottom.ensures.on_page);
})
