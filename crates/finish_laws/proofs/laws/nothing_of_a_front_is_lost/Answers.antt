use Rattle.finish_laws.proofs.Ends.{whole-same}
use Rattle.finish_laws.proofs.WholeCommands.{whole-taken}
use Rattle.finish_laws.proofs.laws.nothing_of_a_front_is_lost.Goals as goal

pub returns-clause-first : goal.returns-clause-first
returns-clause-first c = whole-taken

pub returns-clause-read : goal.returns-clause-read
returns-clause-read c = whole-same
