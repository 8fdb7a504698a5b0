use Rattle.std.proofs.Common.{sym}
use Rattle.plain_diffusion.proofs.Places.{right_is}
use Rattle.plain_diffusion.proofs.pixels.pixel_error.Goals as goal

pub returns-then-width-x-clause-is : goal.returns-then-width-x-clause-is
returns-then-width-x-clause-is c = sym (right_is c.args.window.now c.args.y c.args.x c.if-width-x.true)
