use Rattle.board_core.proofs.Keeps.{legal_event, whole_event}
use Rattle.board_core.proofs.laws.an_accepted_event_keeps_legal.Goals as goal

pub returns-clause-core : goal.returns-clause-core
returns-clause-core c = whole_event

pub returns-clause-legal : goal.returns-clause-legal
returns-clause-legal c = legal_event
