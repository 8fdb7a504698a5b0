use Rattle.std.proofs.Common.{refl}
use Rattle.tile_border.proofs.InkSteps.{read_fits, room_for}
use Rattle.tile_border.proofs.edges.Edge.ink.Goals as goal

pub returns-clause-fits : goal.returns-clause-fits
returns-clause-fits g c = read_fits c.self.inside.inks.items c.from.result c.index.result.now c.self.invariant
    (room_for _ _ _ _ _ c.from.ensures c.self.view_is refl c.requires) c.index.ensures
