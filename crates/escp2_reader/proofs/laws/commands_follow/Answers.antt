use Rattle.escp2_reader.proofs.Jobs.{commands_more, commands_none}
use Rattle.escp2_reader.proofs.laws.commands_follow.Goals as goal

pub returns-clause-none : goal.returns-clause-none
returns-clause-none c = commands_none

pub returns-clause-more : goal.returns-clause-more
returns-clause-more c = commands_more
