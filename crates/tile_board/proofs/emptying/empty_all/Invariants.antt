use Rattle.std.proofs.Common.{◌≡◌, ◌*◌}
use Rattle.std.specs.Slots.{slots_items}
use Rattle.tile_shape.specs.Geometry.{columns_of}
use Rattle.tile_board.specs.Emptying.{IsLeftBy}
use Rattle.tile_board.proofs.emptying.empty_all.Given as goal

abbrev pub invariant-loop-j : goal.invariant-loop-j
invariant-loop-j l = record {
  left : IsLeftBy l.shape (l.j * columns_of l.shape) l.rest l.closed;
  items : slots_items l.rest.slots ≡ slots_items l.initial.rest.slots;
}
