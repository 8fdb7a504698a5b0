use Rattle.std.proofs.Common.{arith}
use Rattle.escp2_rows.proofs.Ends.{costs_begin, costs_end}
use Rattle.escp2_rows.proofs.costs.fill_costs.Goals as goal

pub bytes-init : goal.bytes-init
bytes-init c = costs_begin _ _ c.requires.sized

pub returns : goal.returns
returns c = costs_end _ _ _ c.bytes.invariant (omega (arith, c.bytes-test.false))
