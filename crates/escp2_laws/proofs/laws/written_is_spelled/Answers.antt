use Rattle.escp2_laws.proofs.Written.{written-spells}
use Rattle.escp2_laws.proofs.laws.written_is_spelled.Goals as goal

pub returns : goal.returns
returns c = written-spells
