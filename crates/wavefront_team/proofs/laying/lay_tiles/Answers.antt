use Rattle.std.proofs.Common.{◌≡◌, ◌≤◌, ◌+◌, ◌-◌, ◌*◌, ℕ, ap, arith, length, subst, sym}
use Rattle.tile_shape.specs.Geometry.{columns_of}
use Rattle.wavefront_team.proofs.Laid.{band_inside, lays_more, lays_none}
use Rattle.wavefront_team.proofs.laying.lay_tiles.Goals as goal

pub slice_bounds-put_band-end : goal.slice_bounds-put_band-end
slice_bounds-put_band-end c =
    let P : ℕ → Type 0 = λ m. c.loop-j.j * m + m ≤ length c.args.tiles.now in
    subst P (sym c.columns-columns.ensures)
    (band_inside c.args.shape c.args.tiles.now c.loop-j.j c.requires.tiles (omega (arith, c.bands-j-end.ensures)))

pub loop-j-init : goal.loop-j-init
loop-j-init c = lays_none c.args.shape c.args.at c.args.tiles.now c.args.out.now

pub loop-j-preserved : goal.loop-j-preserved
loop-j-preserved c =
    let columns : ℕ = c.columns-columns.result in
    let first : ℕ = c.loop-j.j * columns in
    let all : first + columns - first ≡ columns_of c.args.shape = omega (arith, c.columns-columns.ensures) in
    lays_more c.args.shape c.args.at c.loop-j.j first (first + columns - first) c.args.tiles.now
    c.args.out.now c.loop-j.out c.put_band.new.self c.requires.width c.requires.at
    (ap (λ m. c.loop-j.j * m) c.columns-columns.ensures) all c.loop-j.invariant c.put_band.ensures
