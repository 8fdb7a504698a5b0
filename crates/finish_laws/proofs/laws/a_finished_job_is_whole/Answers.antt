use Rattle.finish_laws.proofs.Ends.{finished-between, finished-whole}
use Rattle.finish_laws.proofs.laws.a_finished_job_is_whole.Goals as goal

pub returns-clause-whole : goal.returns-clause-whole
returns-clause-whole c = finished-whole

pub returns-clause-between : goal.returns-clause-between
returns-clause-between c = finished-between
