use Rattle.std.proofs.Common.{◌*◌, sym, subst}
use Rattle.std.specs.Slots.{slots_items}
use Rattle.tile_shape.specs.Geometry.{bands_of, columns_of}
use Rattle.tile_shape.specs.declared.tiles.Shape.{Shape}
use Rattle.tile_board.specs.Board.{slab}
use Rattle.tile_board.specs.Emptying.{CanEmpty, EmptiedBefore}
use Rattle.tile_board.specs.Slabs.{number_in, shape_of}
use Rattle.tile_board.proofs.Ending.{closes, each-number, has-dots}
use Rattle.board_core.proofs.Numbers.{number_below}
use Rattle.tile_board.proofs.Shapes.{is-shape, shape-is}
use Rattle.tile_board.proofs.kinds.Board.close.Goals as goal

pub close-requires-clause-posted : goal.close-requires-clause-posted
close-requires-clause-posted g c = each-number (slab c.args.self) c.args.p.seat.me.0 c.requires.all

pub empty_all-requires-clause-can : goal.empty_all-requires-clause-can
empty_all-requires-clause-can g c =
    let b = slab c.args.self in
    let Q : Shape → Type 0 = λ s. CanEmpty s c.close.result in
    subst Q (sym (shape-is c.args.self c.shape-shape.result c.shape-shape.ensures.is)) (record {
      len = c.close.ensures.slots;
      full = c.close.ensures.filled;
      dots = has-dots b (slots_items c.close.result.slots) c.close.ensures.gives;
    })

pub returns-clause-once : goal.returns-clause-once
returns-clause-once g c = λ t tile. c.close.ensures.once (number_in (slab c.args.self) t) (number_below (shape_of (slab c.args.self)) t tile)

pub returns-clause-closes : goal.returns-clause-closes
returns-clause-closes g c =
    let b = slab c.args.self in
    let Q : Shape → Type 0 = λ s. EmptiedBefore s (bands_of s * columns_of s) (slots_items c.close.result.slots) c.empty_all.result in
    closes b (slots_items c.close.result.slots) c.empty_all.result
    (is-shape c.args.self c.shape-shape.result c.shape-shape.ensures.is c.shape-shape.ensures.sizes) c.close.ensures.gives
    (subst Q (shape-is c.args.self c.shape-shape.result c.shape-shape.ensures.is) c.empty_all.ensures)
