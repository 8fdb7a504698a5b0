use Rattle.escp2_laws.proofs.Least.{least-codes}
use Rattle.escp2_laws.proofs.codes.least_is_a_code.Goals as goal

pub returns : goal.returns
returns c = least-codes
