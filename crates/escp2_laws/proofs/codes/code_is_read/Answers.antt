use Rattle.escp2_laws.proofs.Prefixes.{code_read}
use Rattle.escp2_laws.proofs.codes.code_is_read.Goals as goal

pub returns : goal.returns
returns c = code_read
