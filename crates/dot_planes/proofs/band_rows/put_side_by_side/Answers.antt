use Rattle.dot_planes.proofs.BandRows.{beside_more}
use Rattle.dot_planes.proofs.band_rows.put_side_by_side.Goals as goal

pub loop-c-preserved : goal.loop-c-preserved
loop-c-preserved c = beside_more c.loop-c.wide c.put_eight.new.wide c.tile_row.result.now c.args.tiles.now c.index-tiles-c.result
    c.args.ink c.args.r c.loop-c.c c.loop-c-test.true c.index-tiles-c.is
    c.tile_row.ensures.dots c.put_eight.ensures.here c.put_eight.ensures.left c.loop-c.invariant
