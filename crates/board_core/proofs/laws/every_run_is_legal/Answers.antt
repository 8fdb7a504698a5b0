use Rattle.board_core.proofs.Runs.{run_reaches}
use Rattle.board_core.proofs.laws.every_run_is_legal.Goals as goal

pub returns-clause-core : goal.returns-clause-core
returns-clause-core c = λ s events core shape run. (run_reaches s events core shape run).whole

pub returns-clause-legal : goal.returns-clause-legal
returns-clause-legal c = λ s events core shape run. (run_reaches s events core shape run).legal
