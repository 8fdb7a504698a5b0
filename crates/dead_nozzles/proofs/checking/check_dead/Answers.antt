use Rattle.std.proofs.lemmas.Grind.{common_steps}
use Rattle.std.proofs.Common.{◌≡◌, None, refl, ◌∙◌, arith}
use Rattle.dead_nozzles.specs.Dead.{first_outside}
use Rattle.dead_nozzles.proofs.DeadLists.{all-or-not, outside-here, outside-past, outside-step}
use Rattle.dead_nozzles.proofs.checking.check_dead.Goals.{After-from}
use Rattle.dead_nozzles.proofs.checking.check_dead.Goals as goal

pub nozzles-init : goal.nozzles-init
nozzles-init c = refl

pub returns-then-nozzle-nozzles : goal.returns-then-nozzle-nozzles
returns-then-nozzle-nozzles c = grind (arith, outside-here)

pub nozzles-preserved : goal.nozzles-preserved
nozzles-preserved c = grind (arith, outside-step)

-- each number is a nozzle
inside : (c : After-from) → first_outside c.args.nozzles c.args.dead.now ≡ None
inside c = c.nozzles.invariant ∙ outside-past c.args.nozzles c.args.dead.now c.nozzles.nozzle-index (omega (arith, c.nozzles-test.false))

pub returns-then-dead-from : goal.returns-then-dead-from
returns-then-dead-from c = grind (arith, common_steps, all-or-not, inside)

pub returns : goal.returns
returns c = grind (arith, common_steps, all-or-not, inside)
