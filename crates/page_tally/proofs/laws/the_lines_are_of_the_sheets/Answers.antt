use Rattle.page_tally.proofs.Following.{lines-of-sheets}
use Rattle.page_tally.proofs.laws.the_lines_are_of_the_sheets.Goals as goal

pub returns : goal.returns
returns c = lines-of-sheets
