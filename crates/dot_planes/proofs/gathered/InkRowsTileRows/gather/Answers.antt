use Rattle.std.proofs.Common.{arith}
use Rattle.dot_planes.proofs.GatheredRows.{ink_more}
use Rattle.dot_planes.proofs.gathered.InkRowsTileRows.gather.Goals as goal

pub loop-ink-preserved : goal.loop-ink-preserved
loop-ink-preserved c = ink_more _ _ _ _ _ _ c.from.ensures (omega arith) c.gather_ink.ensures c.loop-ink.invariant
