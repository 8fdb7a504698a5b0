use Rattle.std.proofs.Common.{◌≡◌, ◌+◌, ◌*◌, length}
use Rattle.plain_diffusion.specs.Known.{AreDots, AreErrors}
use Rattle.plain_diffusion.proofs.pixels.diffuse_row.Given as goal

abbrev pub invariant-loop-x : goal.invariant-loop-x
invariant-loop-x l = record {
  known : AreErrors l.window l.errors.items;
  dots : AreDots l.window l.dots.items;
  errors_len : length l.errors.items ≡ l.y * l.window.width + l.x;
  dots_len : length l.dots.items ≡ l.y * l.window.width + l.x;
}
