use Rattle.std.proofs.Common.{refl}
use Rattle.std.specs.Fmt.{digits}
use Rattle.driver_core.proofs.examples.parts_of_a_line.Goals as goal

pub returns-clause-places : goal.returns-clause-places
unfolding digits
returns-clause-places c = refl
