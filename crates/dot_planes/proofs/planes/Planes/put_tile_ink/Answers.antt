use Rattle.std.proofs.Common.{◌≡◌, ◌+◌, ◌-◌, ◌*◌, ◌∙◌, ap, arith, drop, take}
use Rattle.dot_planes.proofs.PutTiles.{all_rows, rows_more}
use Rattle.dot_planes.proofs.planes.Planes.put_tile_ink.Goals as goal

pub put_tile_row-requires-clause-column : goal.put_tile_row-requires-clause-column
put_tile_row-requires-clause-column c = let column = c.requires.place.column in omega arith

pub loop-r-preserved : goal.loop-r-preserved
loop-r-preserved c =
    let many : 8 * c.loop-r.r + 8 - 8 * c.loop-r.r ≡ 8 = omega arith in
    let first : 8 * c.loop-r.r ≡ c.loop-r.r * 8 = omega arith in
    rows_more c.args.self.now c.loop-r.self
    c.put_tile_row.new.self c.args.at c.args.height c.args.place c.args.ink c.loop-r.r c.args.bytes.now _
    (omega (arith, c.min-rows.ensures)) (omega (arith, c.min-rows.ensures)) c.requires.slab
    (ap (λ m. take m (drop (8 * c.loop-r.r) c.args.bytes.now)) many
    ∙ ap (λ s. take 8 (drop s c.args.bytes.now)) first) c.loop-r.invariant c.put_tile_row.ensures

pub returns : goal.returns
returns c = all_rows c.args.self.now c.loop-r.self c.args.at c.args.height c.args.place
    c.args.ink c.args.bytes.now c.loop-r.r (omega (arith, c.min-rows.ensures, c.loop-r.auto.r-end)) c.loop-r.invariant
