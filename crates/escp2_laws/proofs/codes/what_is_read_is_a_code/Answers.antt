use Rattle.escp2_laws.proofs.Grammar.{read_codes}
use Rattle.escp2_laws.proofs.codes.what_is_read_is_a_code.Goals as goal

pub returns : goal.returns
returns c = read_codes
