use Rattle.board_steps.proofs.Legality.{legal}
use Rattle.board_steps.proofs.laws.what_is_shown_is_legal.Goals as goal

pub returns : goal.returns
returns c = legal
