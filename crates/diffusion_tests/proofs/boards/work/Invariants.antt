use Rattle.diffusion_tests.specs.Workers.{IsIdle}
use Rattle.diffusion_tests.proofs.boards.work.Given as goal

abbrev pub invariant-loop-n : goal.invariant-loop-n
invariant-loop-n l = IsIdle l.board l.p
