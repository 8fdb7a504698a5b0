use Rattle.std.proofs.Common.{refl, arith, subst, ◌≤◌}
use Rattle.pwg_lines.specs.declared.states.State.{State}
use Rattle.pwg_lines.specs.States.{least_repeats}
use Rattle.pwg_lines.proofs.reader.LineReader.end_group.Goals as goal

pub returns : goal.returns
returns c = record {
  answer_is = refl;
  some = (let P : State → Type 0 = λ s. least_repeats s ≤ c.args.self.now.repeats in subst P c.requires c.args.self.now.counted);
  fall = omega (arith, c.args.self.now.within);
  form = refl;
  line = refl;
  fresh = refl;
}
