use Rattle.std.proofs.Common.{arith}
use Rattle.job_lister.proofs.Counts.{ones-more}
use Rattle.job_lister.proofs.counting.count_blocks.Goals as goal

pub loop-i-preserved : goal.loop-i-preserved
loop-i-preserved c = record {
  so_far = ones-more 64 c.loop-i.i c.loop-i.dots c.count_block-dots.result c.args.bytes.now c.loop-i.invariant.so_far
      c.count_block-dots.ensures.is;
  most = omega (arith, c.loop-i.invariant.most, c.count_block-dots.ensures.most);
}
