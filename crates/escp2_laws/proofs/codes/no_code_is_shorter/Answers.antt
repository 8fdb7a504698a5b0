use Rattle.escp2_laws.proofs.Least.{least-shortest}
use Rattle.escp2_laws.proofs.codes.no_code_is_shorter.Goals as goal

pub returns : goal.returns
returns c = least-shortest
