use Rattle.diffusion_tests.specs.Workers.{IsIdle}
use Rattle.diffusion_tests.proofs.boards.work_in_turn.Given as goal

abbrev pub invariant-loop-n : goal.invariant-loop-n
invariant-loop-n l = IsIdle l.board l.p × IsIdle l.board l.q
