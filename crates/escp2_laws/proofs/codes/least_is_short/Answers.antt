use Rattle.escp2_laws.proofs.Least.{least-short}
use Rattle.escp2_laws.proofs.codes.least_is_short.Goals as goal

pub returns : goal.returns
returns c = least-short
