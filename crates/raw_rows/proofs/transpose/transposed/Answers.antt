use Rattle.raw_rows.proofs.Squares.{four_times}
use Rattle.raw_rows.proofs.transpose.transposed.Goals as goal

pub returns-clause-lanes : goal.returns-clause-lanes
returns-clause-lanes c = four_times _ _ _ _ _ c.riffle.ensures.lanes c.riffle-2.ensures.lanes c.riffle-3.ensures.lanes
    c.riffle-4.ensures.lanes
