use Rattle.std.proofs.Common.{◌+◌, ◌-◌, ◌*◌, ◌≡◌, ◌∙◌, ℕ, List, ap, arith, drop, take}
use Rattle.dot_planes.proofs.PutTiles.{row_of_tile}
use Rattle.dot_planes.proofs.band_rows.tile_row.Goals as goal

pub returns-clause-dots : goal.returns-clause-dots
returns-clause-dots c = λ offset inside.
    let bytes : List ℕ = c.tile_ink.result.now in
    let many : 8 * c.args.r + 8 - 8 * c.args.r ≡ 8 = omega arith in
    let first : 8 * c.args.r ≡ c.args.r * 8 = omega arith in
    row_of_tile bytes _ c.args.r offset
    (ap (λ m. take m (drop (8 * c.args.r) bytes)) many ∙ ap (λ s. take 8 (drop s bytes)) first) inside
    ∙ c.tile_ink.ensures (64 * c.args.r + offset)
