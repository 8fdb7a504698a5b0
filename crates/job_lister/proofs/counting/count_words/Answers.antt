use Rattle.std.proofs.Common.{arith}
use Rattle.job_lister.proofs.Counts.{ones-more}
use Rattle.job_lister.proofs.counting.count_words.Goals as goal

pub loop-i-preserved : goal.loop-i-preserved
loop-i-preserved c = record {
  so_far = ones-more 8 c.loop-i.i c.loop-i.dots c.count_word-dots.result c.args.block.now c.loop-i.invariant.so_far
      c.count_word-dots.ensures.is;
  most = omega (arith, c.loop-i.invariant.most, c.count_word-dots.ensures.most);
}
