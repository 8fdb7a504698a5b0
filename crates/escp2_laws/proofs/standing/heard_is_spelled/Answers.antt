use Rattle.escp2_laws.proofs.Stands.{heard-spelled, one-len}
use Rattle.escp2_laws.proofs.standing.heard_is_spelled.Goals as goal

pub returns-clause-within : goal.returns-clause-within
returns-clause-within c = λ bytes rows command len e. (one-len bytes command rows len e).1

pub returns-clause-spelled : goal.returns-clause-spelled
returns-clause-spelled c = λ bytes rows command len are e. heard-spelled bytes command rows len are e
