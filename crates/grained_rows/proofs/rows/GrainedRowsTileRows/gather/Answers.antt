use Rattle.std.proofs.Common.{refl}
use Rattle.grained_rows.proofs.GrainedTile.{none_grained, tile_grained, tile_kept}
use Rattle.grained_rows.proofs.rows.GrainedRowsTileRows.gather.Goals as goal

pub returns-then-not-gather-clause-none : goal.returns-then-not-gather-clause-none
returns-then-not-gather-clause-none g c = λ none.
    let grained = c.args.self.now in
    none_grained grained.grain grained.first c.args.place (g.A.TileRows.table grained.rows.now) (c.if-not-gather.ensures.none refl)

pub returns-then-self-ne0-clause-tile : goal.returns-then-self-ne0-clause-tile
returns-then-self-ne0-clause-tile g c = λ some.
    let grained = c.args.self.now in
    tile_grained grained.grain grained.first c.args.place (g.A.TileRows.table grained.rows.now) _ _ _ grained.inks
    (c.if-not-gather.ensures.tile refl) c.put_on.ensures

pub returns-else-self-ne0-clause-tile : goal.returns-else-self-ne0-clause-tile
returns-else-self-ne0-clause-tile g c = λ some.
    let grained = c.args.self.now in
    tile_kept grained.grain grained.first c.args.place (g.A.TileRows.table grained.rows.now) _ c.if-self-ne0.false
    (c.if-not-gather.ensures.tile refl)
