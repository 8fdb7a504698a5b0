use Rattle.pwg_laws.proofs.PageLaws.{stream-pages}
use Rattle.pwg_laws.proofs.pages.pages_are_wanted.Goals as goal

pub returns : goal.returns
returns c = stream-pages
