use Rattle.std.proofs.Common.{arith}
use Rattle.ink_separation.proofs.Chunks.{one_bit}
use Rattle.ink_separation.proofs.separator.Separator.bits.Goals as goal

pub returns : goal.returns
returns c = grind (arith, one_bit)
