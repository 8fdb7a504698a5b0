use Rattle.finish_laws.proofs.PrintedJobs.{printed-stays}
use Rattle.finish_laws.proofs.laws.a_printed_job_stays.Goals as goal

pub returns : goal.returns
returns c = printed-stays
