use Rattle.escp2_laws.proofs.Stands.{part-of_part}
use Rattle.escp2_laws.proofs.standing.a_prefix_is_incomplete.Goals as goal

pub returns : goal.returns
returns c = part-of_part
