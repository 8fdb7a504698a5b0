use Rattle.std.proofs.Common.{rules}
use Rattle.board_steps.specs.Rule.{setting_of}
use Rattle.board_steps.proofs.Posting.{posts_step}
use Rattle.board_steps.proofs.Told.{lawful}
use Rattle.board_steps.proofs.steps.post.Goals as goal

pub fetch_or-requires : goal.fetch_or-requires
fetch_or-requires c = (
  search rules,
  search rules,
  posts_step (setting_of c.args.words.now.key) (lawful c.args.words.now.key) _ _ _ _ c.requires.part c.requires.done,
)
