use Rattle.escp2_laws.proofs.PacketsStand.{tried_stand}
use Rattle.escp2_laws.proofs.codes.packets_are_all.Goals as goal

pub returns : goal.returns
returns c = tried_stand
