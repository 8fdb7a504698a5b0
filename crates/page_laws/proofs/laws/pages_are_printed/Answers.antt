use Rattle.page_laws.proofs.Headline.{pages-print}
use Rattle.page_laws.proofs.laws.pages_are_printed.Goals as goal

pub returns : goal.returns
returns c = pages-print
