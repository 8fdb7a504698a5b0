use Rattle.page_laws.proofs.Healing.{healed-fires}
use Rattle.page_laws.proofs.healed.healed_fires.Goals as goal

pub returns : goal.returns
returns c = healed-fires
