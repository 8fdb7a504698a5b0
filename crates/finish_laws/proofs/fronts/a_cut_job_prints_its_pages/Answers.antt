use Rattle.finish_laws.proofs.CutJobs.{front-pages}
use Rattle.finish_laws.proofs.fronts.a_cut_job_prints_its_pages.Goals as goal

pub returns : goal.returns
returns c = front-pages
