use Rattle.page_laws.proofs.Lengths.{halftone-short}
use Rattle.page_laws.proofs.laws.page_is_short.Goals as goal

pub returns : goal.returns
returns c = halftone-short
