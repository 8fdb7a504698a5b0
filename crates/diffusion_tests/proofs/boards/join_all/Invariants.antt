use Rattle.std.proofs.Common.{vec_len}
use Rattle.diffusion_tests.specs.Workers.{AllIdle, IsIdle}
use Rattle.diffusion_tests.proofs.boards.join_all.Given as goal

abbrev pub invariant-loop-q : goal.invariant-loop-q
invariant-loop-q l = IsIdle l.board l.p × AllIdle l.board l.passes.items

abbrev pub decreases-loop-q : goal.decreases-loop-q
decreases-loop-q l = vec_len l.passes
