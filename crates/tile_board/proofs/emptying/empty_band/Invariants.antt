use Rattle.std.proofs.Common.{◌≡◌, ◌+◌, ◌*◌}
use Rattle.std.specs.Slots.{slots_items}
use Rattle.tile_shape.specs.Geometry.{columns_of}
use Rattle.tile_board.specs.Emptying.{IsLeftBy}
use Rattle.tile_board.proofs.emptying.empty_band.Given as goal

abbrev pub invariant-loop-c : goal.invariant-loop-c
invariant-loop-c l = record {
  left : IsLeftBy l.fn.shape (l.j * columns_of l.fn.shape + l.c) l.rest l.closed;
  items : slots_items l.rest.slots ≡ slots_items l.initial.rest.slots;
}
