use Rattle.page_laws.proofs.Rasters.{strokes-have}
use Rattle.page_laws.proofs.laws.strokes_have_rasters.Goals as goal

pub returns : goal.returns
returns c = strokes-have
