use Rattle.page_laws.proofs.Printed.{strokes-print}
use Rattle.page_laws.proofs.laws.strokes_are_printed.Goals as goal

pub returns : goal.returns
returns c = strokes-print
