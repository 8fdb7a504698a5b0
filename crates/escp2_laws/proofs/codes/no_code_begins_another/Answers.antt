use Rattle.escp2_laws.proofs.Prefixes.{rows_alone}
use Rattle.escp2_laws.proofs.codes.no_code_begins_another.Goals as goal

pub returns : goal.returns
returns c = rows_alone
