use Rattle.pwg_laws.proofs.GroupLaws.{group-spelled_once}
use Rattle.pwg_laws.proofs.groups.spelled_once.Goals as goal

pub returns : goal.returns
returns c = group-spelled_once
