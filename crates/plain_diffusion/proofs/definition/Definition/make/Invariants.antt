use Rattle.std.proofs.Common.{◌≡◌, ◌*◌, length}
use Rattle.plain_diffusion.specs.Known.{AreDots, AreErrors}
use Rattle.plain_diffusion.proofs.definition.Definition.make.Given as goal

abbrev pub invariant-loop-y : goal.invariant-loop-y
invariant-loop-y l = record {
  known : AreErrors l.window l.errors.items;
  dots : AreDots l.window l.dots.items;
  errors_len : length l.errors.items ≡ l.y * l.window.width;
  dots_len : length l.dots.items ≡ l.y * l.window.width;
}
