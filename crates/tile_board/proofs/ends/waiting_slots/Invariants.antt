use Rattle.std.proofs.Common.{◌≡◌, ◌*◌, ◌≤◌, vec_capacity, vec_len}
use Rattle.board_steps.specs.Rule.{fresh_in}
use Rattle.board_steps.specs.Steps.{fresh_slots}
use Rattle.tile_board.proofs.ends.waiting_slots.Given as goal

abbrev pub invariant-loop-n : goal.invariant-loop-n
invariant-loop-n l = record {
  items : l.slots.items ≡ fresh_slots (fresh_in l.fn.shape l.fn.inks) l.n;
  long : vec_len l.slots ≡ 4 * l.n;
  room : 4 * l.tiles ≤ vec_capacity l.slots;
}
