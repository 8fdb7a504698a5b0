use Rattle.std.proofs.Common.{refl}
use Rattle.job_finisher.proofs.PassedBytes.{passed_none}
use Rattle.job_finisher.proofs.finisher.JobFinisher.make.Goals as goal

pub returns : goal.returns
returns c = passed_none _ c.in_ok-make.ensures.anew c.in_ok-make.ensures.fed c.in_ok-make.ensures.is_open refl c.in_ok-make-2.ensures
