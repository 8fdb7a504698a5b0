use Rattle.escp2_laws.proofs.Stands.{fault-stays}
use Rattle.escp2_laws.proofs.standing.a_fault_ends_a_job.Goals as goal

pub returns : goal.returns
returns c = fault-stays
