use Rattle.pwg_laws.proofs.GroupLaws.{group_at-spelling}
use Rattle.pwg_laws.proofs.groups.spelled_is_read.Goals as goal

pub returns : goal.returns
returns c = group_at-spelling
