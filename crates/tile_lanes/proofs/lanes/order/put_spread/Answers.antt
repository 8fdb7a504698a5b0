use Rattle.std.proofs.Common.{arith}
use Rattle.tile_lanes.proofs.LaneOrder.{all_spread, four_of, put_from}
use Rattle.tile_lanes.proofs.lanes.order.put_spread.Goals as goal

pub returns : goal.returns
returns c =
    let part = c.args.part in
    all_spread part c.args.at _ _ _ _ _
    (put_from part _ 0 _ _ _ (four_of part 0 (omega arith)) c.put_four.ensures)
    (put_from part _ 4 _ _ _ (four_of part 4 (omega arith)) c.put_four-2.ensures)
    (put_from part _ 8 _ _ _ (four_of part 8 (omega arith)) c.put_four-3.ensures)
    (put_from part _ 12 _ _ _ (four_of part 12 (omega arith)) c.put_four-4.ensures)
