use Rattle.std.proofs.Common.{arith}
use Rattle.raw_rows.proofs.InkSets.{few_inks}
use Rattle.grained_rows.proofs.GrainedTile.{ink_grained}
use Rattle.grained_rows.proofs.grain.InkGrain.put_on.Goals as goal

pub loop-i-preserved : goal.loop-i-preserved
loop-i-preserved c = ink_grained _ _ _ _ _ _ _ _ _ (omega arith) (omega (arith, few_inks c.args.self.now.inks)) c.at.ensures
    c.loop-i.invariant c.put_on_ink.ensures
