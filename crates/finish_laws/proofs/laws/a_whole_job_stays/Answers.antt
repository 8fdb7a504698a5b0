use Rattle.finish_laws.proofs.Ends.{whole-stays}
use Rattle.finish_laws.proofs.laws.a_whole_job_stays.Goals as goal

pub returns : goal.returns
returns c = whole-stays
