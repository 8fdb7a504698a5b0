use Rattle.page_laws.proofs.WaysKept.{ways-print}
use Rattle.page_laws.proofs.ways.pages_are_printed_by_ways.Goals as goal

pub returns : goal.returns
returns c = ways-print
