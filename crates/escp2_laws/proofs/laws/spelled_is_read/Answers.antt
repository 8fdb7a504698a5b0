use Rattle.escp2_laws.proofs.Reading.{command_at-spelled}
use Rattle.escp2_laws.proofs.laws.spelled_is_read.Goals as goal

pub returns : goal.returns
returns c = command_at-spelled
