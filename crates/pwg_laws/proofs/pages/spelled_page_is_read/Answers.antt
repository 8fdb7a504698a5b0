use Rattle.pwg_laws.proofs.PageSpelling.{page_at-spelling}
use Rattle.pwg_laws.proofs.pages.spelled_page_is_read.Goals as goal

pub returns : goal.returns
returns c = page_at-spelling
