use Rattle.board_steps.proofs.OtherSteps.{join_shows_nothing, look_shows_nothing, split_shows_nothing}
use Rattle.board_steps.proofs.laws.other_steps_show_nothing.Goals as goal

pub returns : goal.returns
returns c = record { look = look_shows_nothing; split = split_shows_nothing; join = join_shows_nothing }
