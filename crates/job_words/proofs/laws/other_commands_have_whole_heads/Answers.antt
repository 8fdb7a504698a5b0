use Rattle.job_words.proofs.Heads.{whole_head}
use Rattle.job_words.proofs.laws.other_commands_have_whole_heads.Goals as goal

pub returns : goal.returns
returns c = whole_head
