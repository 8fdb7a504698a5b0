use Rattle.std.proofs.Common.{◌≡◌, ℕ, ◌+◌, ◌*◌, ◌<◌, ap, arith, ◌∙◌}
use Rattle.board_core.proofs.Numbers.{number_below}
use Rattle.tile_board.specs.Board.{slab}
use Rattle.tile_board.specs.Slabs.{number_in, shape_of}
use Rattle.tile_shape.specs.Geometry.{bands_of, columns_of}
use Rattle.tile_shape.specs.declared.tiles.Shape.{Shape}
use Rattle.wavefront_team.proofs.work.work_rest.Goals as goal

pub loop-j-init : goal.loop-j-init
loop-j-init g c = record { pass = c.requires.pass; posted = λ t low. absurd (omega arith) }

pub returns-clause-all : goal.returns-clause-all
returns-clause-all g c = λ t tile.
    let C : ℕ = columns_of (shape_of (slab c.args.board.now)) in
    let B : ℕ = bands_of (shape_of (slab c.args.board.now)) in
    let n : ℕ = number_in (slab c.args.board.now) t in
    let j : ℕ = c.loop-j.j in
    let all : j ≡ B = omega (arith, c.bands-j-end.ensures ∙ ap (λ (s : Shape). bands_of s) c.requires.shape) in
    let rows : j * C ≡ B * C = ap (λ m. m * C) all in
    let u : ℕ = j * C in
    let w : ℕ = B * C in
    let rows' : u ≡ w = rows in
    let low : n < w = number_below (shape_of (slab c.args.board.now)) t tile in
    let inside : n < u + 0 = omega arith in
    c.loop-j.invariant.posted n inside
