use Rattle.pwg_laws.proofs.HeaderLaws.{check-header_bytes}
use Rattle.pwg_laws.proofs.pages.written_is_accepted.Goals as goal

pub returns : goal.returns
returns c = check-header_bytes
