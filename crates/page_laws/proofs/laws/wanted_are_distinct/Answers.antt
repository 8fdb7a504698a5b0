use Rattle.page_definitions.specs.Dots.{halftone}
use Rattle.page_laws.proofs.Once.{wanted-once}
use Rattle.page_laws.proofs.laws.wanted_are_distinct.Goals as goal

pub returns : goal.returns
returns c = λ page p k can. wanted-once p (halftone page p k) can
