use Rattle.escp2_laws.proofs.Stands.{one-stands}
use Rattle.escp2_laws.proofs.standing.a_command_stands.Goals as goal

pub returns : goal.returns
returns c = λ bytes rest rows command len e. one-stands bytes rest command rows len e
