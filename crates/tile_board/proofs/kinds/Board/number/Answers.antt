use Rattle.std.proofs.Common.{◌≡◌, ◌+◌, ◌*◌, ap, arith}
use Rattle.tile_board.specs.Board.{slab}
use Rattle.tile_board.specs.Slabs.{number_in, shape_of}
use Rattle.board_core.proofs.Numbers.{number_below}
use Rattle.tile_board.proofs.Numbers.{few-tiles}
use Rattle.tile_board.proofs.Shapes.{columns-is, is-shape}
use Rattle.tile_board.proofs.kinds.Board.number.Goals as goal

-- the number of a tile, which is below the number of tiles
same : (g : _) (c : goal.After-struct_known-2-1 g) → c.args.t.j * c.columns.result + c.args.t.c ≡ number_in (slab c.args.self.now) c.args.t
same g c =
    ap (λ columns. c.args.t.j * columns + c.args.t.c)
    (columns-is c.args.self.now c.shape.result c.columns.result c.shape.ensures.is c.columns.ensures)

pub returns-clause-is : goal.returns-clause-is
returns-clause-is g c = same g c

pub returns-clause-inside : goal.returns-clause-inside
returns-clause-inside g c = let n = number_below (shape_of (slab c.args.self.now)) c.args.t c.requires in let e = same g c in
    let w = c.args.self.now.sized in omega arith

pub returns-clause-few : goal.returns-clause-few
returns-clause-few g c =
    let n = number_below (shape_of (slab c.args.self.now)) c.args.t c.requires in
    let few =
    few-tiles (shape_of (slab c.args.self.now)) (is-shape c.args.self.now c.shape.result c.shape.ensures.is c.shape.ensures.sizes) in
    let e = same g c in omega arith
