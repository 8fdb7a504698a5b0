use Rattle.board_steps.proofs.Parts.{parts_added}
use Rattle.board_steps.proofs.laws.a_join_adds_the_parts.Goals as goal

pub returns : goal.returns
returns c = parts_added
