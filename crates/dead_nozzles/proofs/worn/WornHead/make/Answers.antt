use Rattle.std.proofs.Common.{ℕ, arith}
use Rattle.dead_nozzles.proofs.Tables.{listed-is}
use Rattle.dead_nozzles.proofs.worn.WornHead.make.Goals as goal

pub returns : goal.returns
returns c = grind (arith, listed-is)
