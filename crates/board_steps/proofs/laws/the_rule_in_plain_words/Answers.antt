use Rattle.board_steps.proofs.Wording.{plain_words}
use Rattle.board_steps.proofs.laws.the_rule_in_plain_words.Goals as goal

pub returns : goal.returns
returns c = plain_words
