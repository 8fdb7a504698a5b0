use Rattle.std.proofs.Common.{◌≡◌, drop}
use Rattle.dead_nozzles.specs.Dead.{first_outside}
use Rattle.dead_nozzles.proofs.checking.check_dead.Given as goal

-- no number so far is none of the nozzles
abbrev pub invariant-nozzles : goal.invariant-nozzles
invariant-nozzles l = first_outside l.nozzles l.dead ≡ first_outside l.nozzles (drop l.nozzle-index l.dead)
