use Rattle.std.proofs.Common.{arith}
use Rattle.ink_separation.proofs.BlackScales.{black_is}
use Rattle.ink_separation.proofs.black.BlackScale.black_at.Goals as goal

pub returns : goal.returns
returns c = grind (arith, black_is)
