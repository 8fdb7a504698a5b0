use Rattle.page_laws.proofs.Healing.{healed-rasters}
use Rattle.page_laws.proofs.healed.healed_have_passes.Goals as goal

pub returns : goal.returns
returns c = healed-rasters
