use Rattle.page_laws.proofs.Healing.{healed-spared}
use Rattle.page_laws.proofs.healed.dead_rows_are_blank.Goals as goal

pub returns : goal.returns
returns c = healed-spared
