use Rattle.ink_separation.proofs.Offsets.{offsets_more}
use Rattle.ink_separation.proofs.planes.put_darknesses.Goals as goal

pub loop-o-preserved : goal.loop-o-preserved
loop-o-preserved c = offsets_more _ c.loop-o.o _ c.loop-o.plane _ c.darkness_at.ensures c.loop-o.invariant c.put_column.ensures
