use Rattle.page_laws.proofs.Weaving.{weave-fires}
use Rattle.page_laws.proofs.laws.weave_fires.Goals as goal

pub returns : goal.returns
returns c = weave-fires
