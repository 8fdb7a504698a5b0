use Rattle.tile_lanes.proofs.BlankTiles.{blank_done, none_of, zeros_are}
use Rattle.tile_lanes.proofs.tile.diffuse_tile.Goals as goal

pub returns-then-hands_nothing-clause-done : goal.returns-then-hands_nothing-clause-done
returns-then-hands_nothing-clause-done c = λ f has e s ready.
    blank_done c.args.kernel c.args.shape c.args.place f e _ _ _ _
    (none_of c.args.shape c.args.place f c.args.amounts.now has (c.is_blank.ensures.0 c.if-is_blank.true)) s ready
    (c.hands_nothing.ensures.0 c.if-hands_nothing.true) (zeros_are 256)
