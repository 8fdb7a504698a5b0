use Rattle.std.proofs.Common.{◌≡◌}
use Rattle.wavefront_team.proofs.worker.Worker.keep_level.Given as goal

abbrev pub invariant-loop-j : goal.invariant-loop-j
invariant-loop-j l = l.self.pass ≡ l.initial.self.pass
