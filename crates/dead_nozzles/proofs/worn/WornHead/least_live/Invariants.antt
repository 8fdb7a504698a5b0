use Rattle.std.proofs.Common.{◌≡◌, ◌-◌}
use Rattle.base_definitions.specs.Counting.{count_from}
use Rattle.dead_nozzles.specs.Dead.{first_live, least_live}
use Rattle.dead_nozzles.proofs.worn.WornHead.least_live.Given as goal

-- no nozzle so far is live
abbrev pub invariant-loop-nozzle : goal.invariant-loop-nozzle
invariant-loop-nozzle l =
    least_live l.fn.self.nozzles l.fn.self.dead ≡ first_live l.fn.self.dead (count_from l.nozzle (l.fn.self.nozzles - l.nozzle))
