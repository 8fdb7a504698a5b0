use Rattle.std.proofs.Common.{sym}
use Rattle.job_lister.proofs.Counts.{no-ones}
use Rattle.job_lister.proofs.counting.count_block.Goals as goal

pub returns-then-is_blank-clause-is : goal.returns-then-is_blank-clause-is
returns-then-is_blank-clause-is c = sym (no-ones c.args.block.now (c.is_blank.ensures c.if-is_blank.true))
