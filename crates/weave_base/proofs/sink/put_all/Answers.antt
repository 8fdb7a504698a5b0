use Rattle.std.proofs.Common.{arith}
use Rattle.std.proofs.lemmas.Grind.{common_steps}
use Rattle.weave_base.proofs.Copying.{write_more}
use Rattle.weave_base.proofs.sink.put_all.Goals as goal

pub loop-at-preserved : goal.loop-at-preserved
loop-at-preserved g c = record {
  within = grind (arith, common_steps, c.in_ok-at.ensures.bound);
  so_far = write_more _ _ _ c.args.piece.now c.loop-at.at _ c.loop-at.invariant.within c.loop-at.invariant.so_far c.in_ok-at.ensures.bytes;
  later = omega (arith, c.loop-at.invariant.later, c.in_ok-at.ensures.cause.later);
}
