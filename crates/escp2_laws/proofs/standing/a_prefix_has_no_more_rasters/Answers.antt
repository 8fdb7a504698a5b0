use Rattle.escp2_laws.proofs.Stands.{prefix-rasters}
use Rattle.escp2_laws.proofs.standing.a_prefix_has_no_more_rasters.Goals as goal

pub returns : goal.returns
returns c = prefix-rasters
