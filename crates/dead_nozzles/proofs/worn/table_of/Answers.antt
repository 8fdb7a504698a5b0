use Rattle.std.proofs.Common.{◌+◌, ◌<◌, ◌||◌, ap, sym, ◌∙◌, refl, arith, length-set}
use Rattle.dead_nozzles.specs.Dead.{has}
use Rattle.dead_nozzles.proofs.Tables.{blank, table-end, table-step}
use Rattle.dead_nozzles.proofs.worn.table_of.Goals as goal

pub dead-init : goal.dead-init
dead-init c = record { whole = refl; each = λ nozzle. ap (λ b. b || has c.args.dead.now nozzle) (sym (blank 256 nozzle)) }

pub dead-preserved : goal.dead-preserved
dead-preserved c = grind (arith, length-set, table-step)

pub returns : goal.returns
returns c = grind (arith, table-end)
