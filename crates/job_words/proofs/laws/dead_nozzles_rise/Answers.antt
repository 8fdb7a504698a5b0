use Rattle.job_words.proofs.NozzleLists.{nozzles_of_job}
use Rattle.job_words.proofs.laws.dead_nozzles_rise.Goals as goal

pub returns : goal.returns
returns c = nozzles_of_job
