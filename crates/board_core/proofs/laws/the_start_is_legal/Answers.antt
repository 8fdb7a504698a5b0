use Rattle.board_core.proofs.Runs.{start_legal, start_whole}
use Rattle.board_core.proofs.laws.the_start_is_legal.Goals as goal

pub returns-clause-core : goal.returns-clause-core
returns-clause-core c = start_whole

pub returns-clause-legal : goal.returns-clause-legal
returns-clause-legal c = λ s shape. start_legal s
