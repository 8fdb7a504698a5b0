use Rattle.tile_lanes.proofs.BlankTiles.{blank_done, zeros_are, zeros_have}
use Rattle.tile_lanes.proofs.tile.diffuse_blank.Goals as goal

pub returns-then-hands_nothing-clause-done : goal.returns-then-hands_nothing-clause-done
returns-then-hands_nothing-clause-done c = λ f none e s ready.
    blank_done c.args.kernel c.args.shape c.args.place f e _ _ _ _ none s ready
    (c.hands_nothing.ensures.0 c.if-hands_nothing.true) (zeros_are 256)

pub returns-else-hands_nothing-clause-done : goal.returns-else-hands_nothing-clause-done
returns-else-hands_nothing-clause-done c = λ f none.
    c.diffuse_pixels.ensures.done f (zeros_have c.args.shape c.args.place f 2048 none)
