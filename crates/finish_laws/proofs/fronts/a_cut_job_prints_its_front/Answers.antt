use Rattle.finish_laws.proofs.CutJobs.{front-prints}
use Rattle.finish_laws.proofs.fronts.a_cut_job_prints_its_front.Goals as goal

pub returns : goal.returns
returns c = front-prints
