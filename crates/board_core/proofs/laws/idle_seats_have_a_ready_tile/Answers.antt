use Rattle.board_core.proofs.Idle.{ready_tile}
use Rattle.board_core.proofs.laws.idle_seats_have_a_ready_tile.Goals as goal

pub returns : goal.returns
returns c = ready_tile
