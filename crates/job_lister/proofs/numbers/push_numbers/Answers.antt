use Rattle.std.proofs.Common.{arith}
use Rattle.job_lister.proofs.Numbering.{numbers_more}
use Rattle.job_lister.proofs.numbers.push_numbers.Goals as goal

pub loop-n-preserved : goal.loop-n-preserved
loop-n-preserved c = record {
  bytes = numbers_more c.args.ns.now c.loop-n.n-index _ _ _ (omega arith) c.loop-n.invariant.bytes c.push_number.ensures.bytes;
  len = omega (arith, c.loop-n.invariant.len, c.push_number.ensures.len);
}
