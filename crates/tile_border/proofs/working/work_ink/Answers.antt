use Rattle.std.proofs.Common.{arith}
use Rattle.tile_border.proofs.InkSteps.{diffuses, read_fits, room_for, works_ink}
use Rattle.tile_border.proofs.working.work_ink.Goals as goal

pub diffuse_ink-requires-clause-side_fits : goal.diffuse_ink-requires-clause-side_fits
diffuse_ink-requires-clause-side_fits g c =
    read_fits c.side.inside.inks.items c.from-at.result c.index_mut.result.now c.side.invariant
    (room_for _ _ _ _ _ c.from-at.ensures c.side.view_is c.requires.inks.side c.requires.ink) c.index_mut.ensures.value

pub diffuse_ink-requires-clause-bottom_fits : goal.diffuse_ink-requires-clause-bottom_fits
diffuse_ink-requires-clause-bottom_fits g c =
    read_fits c.bottom.inside.inks.items c.from-at.result c.index_mut-2.result.now c.bottom.invariant
    (room_for _ _ _ _ _ c.from-at.ensures c.bottom.view_is c.requires.inks.bottom c.requires.ink) c.index_mut-2.ensures.value

pub diffuse_ink-requires-clause-corner_fits : goal.diffuse_ink-requires-clause-corner_fits
diffuse_ink-requires-clause-corner_fits g c =
    read_fits c.corner.inside.inks.items c.from-at.result c.index_mut-3.result.now c.corner.invariant
    (room_for _ _ _ _ _ c.from-at.ensures c.corner.view_is c.requires.inks.corner c.requires.ink) c.index_mut-3.ensures.value

pub returns : goal.returns
returns g c =
    works_ink c.args.kernel (g.A.TileRows.table c.args.rows.now) c.args.place c.args.ink c.from-at.result
    c.side.inside.inks.items c.args.side.now c.bottom.inside.inks.items c.args.bottom.now c.corner.inside.inks.items c.args.corner.now
    c.args.bits.now
    c.diffuse_ink.new.side c.index_mut.result.now c.diffuse_ink.new.bottom c.index_mut-2.result.now c.diffuse_ink.new.corner
    c.index_mut-3.result.now c.diffuse_ink.new.dots
    c.from-at.ensures (omega (arith, c.requires.inks.bits, c.requires.ink))
    (record {
      is = c.side.view_is;
      room = room_for _ _ _ _ _ c.from-at.ensures c.side.view_is c.requires.inks.side c.requires.ink;
      read = c.index_mut.ensures.value;
    })
    (record {
      is = c.bottom.view_is;
      room = room_for _ _ _ _ _ c.from-at.ensures c.bottom.view_is c.requires.inks.bottom c.requires.ink;
      read = c.index_mut-2.ensures.value;
    })
    (record {
      is = c.corner.view_is;
      room = room_for _ _ _ _ _ c.from-at.ensures c.corner.view_is c.requires.inks.corner c.requires.ink;
      read = c.index_mut-3.ensures.value;
    })
    (diffuses c.args.kernel (g.A.TileRows.table c.args.rows.now) c.args.place c.args.ink c.from-at.result c.shape.result c.args.amounts (λ a. a.now.inks)
    c.shape.ensures.is c.from-at.ensures c.requires.ink c.requires.gathered c.diffuse_ink.ensures.done)
