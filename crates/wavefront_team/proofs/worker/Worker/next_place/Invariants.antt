use Rattle.std.proofs.Common.{◌≡◌}
use Rattle.wavefront_team.proofs.worker.Worker.next_place.Given as goal

abbrev pub invariant-loop : goal.invariant-loop
invariant-loop l = l.self.pass ≡ l.initial.self.pass
