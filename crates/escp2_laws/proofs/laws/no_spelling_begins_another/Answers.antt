use Rattle.escp2_laws.proofs.Reading.{alone}
use Rattle.escp2_laws.proofs.laws.no_spelling_begins_another.Goals as goal

pub returns : goal.returns
returns c = alone
