use Rattle.std.proofs.Common.{ap}
use Rattle.plain_diffusion.specs.Fills.{hash}
use Rattle.plain_diffusion.proofs.fills.mixed.Goals as goal

pub returns : goal.returns
unfolding hash
returns c = ap (λ seed. hash seed c.args.x c.args.y) c.from.ensures
