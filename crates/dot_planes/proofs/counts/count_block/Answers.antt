use Rattle.std.proofs.Common.{sym}
use Rattle.dot_planes.proofs.WordCounts.{zero_ones}
use Rattle.dot_planes.proofs.counts.count_block.Goals as goal

pub returns-then-are_zero-clause-is : goal.returns-then-are_zero-clause-is
returns-then-are_zero-clause-is c = sym (zero_ones _ (c.are_zero.ensures c.if-are_zero.true))
