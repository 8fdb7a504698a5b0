use Rattle.pwg_laws.proofs.GroupLaws.{group_at-read}
use Rattle.pwg_laws.proofs.groups.read_is_spelled.Goals as goal

pub returns : goal.returns
returns c = group_at-read
