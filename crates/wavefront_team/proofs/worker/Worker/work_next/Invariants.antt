use Rattle.wavefront_team.specs.Passes.{IsWorkerOf, desk}
use Rattle.wavefront_team.proofs.worker.Worker.work_next.Given as goal

abbrev pub invariant-loop : goal.invariant-loop
invariant-loop g l = IsWorkerOf (desk l.board) l.self.pass
