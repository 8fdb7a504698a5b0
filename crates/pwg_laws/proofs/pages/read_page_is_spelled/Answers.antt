use Rattle.pwg_laws.proofs.PageReading.{page_at-read}
use Rattle.pwg_laws.proofs.pages.read_page_is_spelled.Goals as goal

pub returns : goal.returns
returns c = page_at-read
