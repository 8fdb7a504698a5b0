use Rattle.pwg_laws.proofs.GroupFaults.{group_at-fault}
use Rattle.pwg_laws.proofs.groups.fault_stands.Goals as goal

pub returns : goal.returns
returns c = group_at-fault
