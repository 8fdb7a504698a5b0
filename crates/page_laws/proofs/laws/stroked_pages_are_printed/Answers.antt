use Rattle.page_laws.proofs.Headline.{stroked-print}
use Rattle.page_laws.proofs.laws.stroked_pages_are_printed.Goals as goal

pub returns : goal.returns
returns c = stroked-print
