use Rattle.escp2_laws.proofs.Least.{lengths}
use Rattle.escp2_laws.proofs.codes.costs_are_reached.Goals as goal

pub returns : goal.returns
returns c = lengths
