use Rattle.std.proofs.Common.{ℕ, List, ◌-◌, ◌∙◌, arith, drop, take}
use Rattle.std.proofs.lemmas.List.{get_or-drop, get_or-take}
use Rattle.raw_rows.proofs.BitPixels.{loaded}
use Rattle.raw_rows.proofs.bits.sixteen_of.Goals as goal

pub returns-clause-lanes : goal.returns-clause-lanes
returns-clause-lanes c = λ k low.
    let first : ℕ = c.args.first in
    let rest : List ℕ = drop first c.args.table.now in
    loaded (take (72 - first) rest) k low ∙ get_or-take (72 - first) rest k 0 (omega arith) ∙ get_or-drop first c.args.table.now k 0
